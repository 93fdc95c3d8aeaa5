mod BookLemmas
mod OpenLemmas
mod Nothing
