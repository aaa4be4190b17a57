pub mod ConfigLemmas
pub mod DefaultLemmas
pub mod ListLemmas
pub mod MemberLemmas
pub mod RangeLemmas
