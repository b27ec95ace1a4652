-- The files of lemmas of rl_base.
pub mod ActivitiesLemmas
pub mod BitsLemmas
pub mod DateLaws
pub mod HistoryLemmas
pub mod NumberedLemmas
pub mod Orders
pub mod RankLaws
pub mod RanksLemmas
pub mod SignalsLemmas
