use Rattle.pt_recover.proofs.Roles.{holds}
use Rattle.pt_recover.proofs.alike.says_same.Goals as goal

pub returns : goal.returns
returns g c = λ yes. record {
  head = c.same_at_head.ensures (holds c.same_at_head.result c.if-not-same_at_head.false);
  ebr = c.same_ebrs.ensures (holds c.same_ebrs.result c.if-not-same_ebrs.false);
  label = c.same_labels.ensures (holds c.same_labels.result c.if-not-same_labels.false);
  header = c.same_headers.ensures yes;
}
