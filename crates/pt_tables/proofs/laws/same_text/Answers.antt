use Rattle.pt_tables.proofs.Denoted.{denoted_in_order}
use Rattle.pt_tables.proofs.OneText.{one_layout}
use Rattle.pt_tables.proofs.laws.same_text.Goals as goal

pub returns : goal.returns
returns c = λ text device other b e d f o p fits others here there.
    one_layout text device other b e o p fits others (denoted_in_order b d o here) (denoted_in_order e f p there)
