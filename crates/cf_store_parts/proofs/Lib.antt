-- The files of lemmas of cf_store_parts.
mod Growing
