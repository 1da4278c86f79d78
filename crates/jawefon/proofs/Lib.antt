pub use Rattle.pt_sector.proofs.CallsLemmas
