use Rattle.std.proofs.Common.{◌≡◌, ℕ, List, ap, Result, Ok, Err, IfOk, IfErr}
use Rattle.pt_gpt.specs.Copies.{HeaderBytes, IsHeaderFault}
use Rattle.pt_gpt.specs.declared.header.Header.{Header}
use Rattle.pt_gpt.specs.declared.error.CopyError.{CopyError}
use Rattle.pt_gpt.proofs.Terms.{header_is_one_lem, no_header_lem}
use Rattle.pt_gpt.proofs.laws.header_reads_back.Goals as goal

read_back : (b : ℕ) (h : Header) (bytes : List ℕ) (r : Result Header CopyError) → HeaderBytes b h bytes
    → IfOk r (λ k. HeaderBytes b k bytes) → IfErr r (λ e. IsHeaderFault b e bytes) → r ≡ Ok h
read_back b h bytes (Ok k) is ok err = ap (λ (x : Header). Ok x) (header_is_one_lem b k h bytes ok is)
read_back b h bytes (Err e) is ok err = absurd (no_header_lem b e h bytes err is)

pub returns : goal.returns
returns g c =
    let told = c.decode_header.ensures in
    read_back g.row.B c.args.header.now c.encode_header.result c.decode_header.result c.encode_header.ensures.header told.ok told.err
