-- The files of lemmas of cf_basichash.
pub mod ClosingLemmas
pub mod PlacesLemmas
pub mod SeekLemmas
pub mod StepsLemmas
pub mod TablesLemmas
