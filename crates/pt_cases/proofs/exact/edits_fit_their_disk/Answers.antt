use Rattle.pt_cases.proofs.Fits.{edit_may_be, edit_labels_fit, edit_readable}
use Rattle.pt_cases.proofs.FitsApart.{edit_apart}
use Rattle.pt_cases.proofs.FitsMade.{edit_made}
use Rattle.pt_cases.proofs.exact.edits_fit_their_disk.Goals as goal

pub returns : goal.returns
returns c = record {
  body = edit_may_be;
  labels = edit_labels_fit;
  readable = edit_readable;
  made = edit_made;
  apart = edit_apart;
}
