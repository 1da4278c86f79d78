use Rattle.pt_replay.proofs.adopt.beyond.Given as goal

abbrev pub ghost-any : goal.ghost-any
ghost-any g a = g.supposed
