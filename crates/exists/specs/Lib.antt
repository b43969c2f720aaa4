pub mod PartsOf
