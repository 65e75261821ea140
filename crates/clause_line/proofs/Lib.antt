pub mod ClauseLaws
