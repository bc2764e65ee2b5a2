pub mod NetRelations
