pub mod LayerNames
