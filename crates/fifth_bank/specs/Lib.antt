pub mod NotBefores
