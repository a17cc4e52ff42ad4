pub mod FunctionTrees
pub mod UnitsWarm
pub mod Cold
