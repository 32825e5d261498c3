pub mod ScanLemmas
pub mod SpanLemmas
