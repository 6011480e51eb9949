pub mod ScopeView
