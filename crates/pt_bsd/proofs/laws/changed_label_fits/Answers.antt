use Rattle.pt_bsd.proofs.Terms.{with_entry_counted, with_entry_fits, with_entry_form}
use Rattle.pt_bsd.proofs.laws.changed_label_fits.Goals as goal

pub returns : goal.returns
returns c =
    λ l k first len e counted lt other fits. (
      with_entry_counted l k e counted lt,
      with_entry_fits l k first len e other fits,
      with_entry_form l k e other,
    )
