mod SetupLemmas
mod WrittenLemmas
mod StartLemmas
mod PromiseLemmas
mod ToldLemmas
mod RunLemmas
