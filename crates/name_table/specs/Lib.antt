pub mod Causes
pub mod CodeBits
pub mod DomainValues
pub mod ScopeVars
pub mod ValueNames
pub mod Variables
