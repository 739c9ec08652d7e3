-- A list's value past its end, and the trees of its rest.
pub use Rattle.tasks.proofs.plain_laws.Lists.{got_none as none_mapped}
