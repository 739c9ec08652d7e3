pub mod Common
pub mod DepthLemmas
pub mod SpanLemmas
pub mod Answering
pub mod OneFault
