mod Examples
mod Growth
