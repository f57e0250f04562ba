pub mod HalfGates
