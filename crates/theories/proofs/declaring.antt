mod MadeMoves
mod Typed
mod Named
mod Refused
mod Pushed
mod Sound
mod Appended
