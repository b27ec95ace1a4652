-- The files of lemmas of cf_callbacks.
pub mod RankingLaws
