pub use Rattle.word_tables.specs as word_tables
pub mod rule_words
pub mod tree_lines
pub mod Steps
pub mod Made
