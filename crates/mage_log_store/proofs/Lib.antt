pub mod LogDeskLemmas
