-- The faults of the calls as the model names them.
pub use Rattle.checks.specs.Faults.{flaw, flaw_in}
