use Rattle.pt_recover.proofs.Roles.{unlike, labels_none, labels_ok}
use Rattle.pt_recover.proofs.alike.same_labels.Goals as goal

pub returns-then-not-bears_magic-2 : goal.returns-then-not-bears_magic-2
returns-then-not-bears_magic-2 g c = λ yes. labels_none c.args.x.now c.args.y.now
    (λ has. unlike c.bears_magic.result c.if-not-bears_magic.true (c.bears_magic.ensures.1 has))
    (λ has. unlike c.bears_magic-then-not-bears_magic.result c.if-not-bears_magic-2.true (c.bears_magic-then-not-bears_magic.ensures.1 has))

pub returns : goal.returns
returns g c = λ yes. labels_ok c.args.x.now c.args.y.now (c.same_front.ensures.0 yes)
