pub mod FewPasses
