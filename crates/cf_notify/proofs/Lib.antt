-- The files of lemmas of cf_notify.
pub mod Nexts
pub mod Steps
pub mod Chains
pub mod Numbers
pub mod Forgetting
pub mod Collecting
