pub use Rattle.wider_rules.specs.Further
pub use Rattle.wider_rules.specs.FurtherAreas
