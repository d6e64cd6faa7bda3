-- A test that holds of 0, 1, .., n - 1 holds of each of them, and the other way round: `device`'s.
pub use Rattle.device.proofs.Each.{all_hold, each_holds}
