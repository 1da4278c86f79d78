pub mod ForFields
