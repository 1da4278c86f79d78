use Rattle.std.proofs.Common.{◌≡◌, ◌∙◌, ◌≤◌, ◌<◌, ◌+◌, refl, sym, inr, subst}
use Rattle.std.proofs.lemmas.Result.{err_from_is_err_and}
use Rattle.pt_sector.specs.Device.{Told}
use Rattle.pt_gpt.specs.Copies.{SideReads, counted}
use Rattle.pt_gpt.proofs.Heads.{failed_in}
use Rattle.pt_gpt.specs.Copies.{failure_in}
use Rattle.pt_gpt.specs.declared.error.CopyError.{CopyError}
use Rattle.pt_gpt.specs.declared.table.Side.{Side}
use Rattle.std.specs.Prelude.{ℕ, Result, Ok, Err, None, IfOk}
use Rattle.pt_follow.specs.Follow.{Follows, InCopy}
use Rattle.pt_follow.specs.declared.copy.FollowedCopy.{FollowedCopy}
use Rattle.pt_follow.specs.inner.Follow.{ReadArray, IsHeadless, KnowsNoEntry}
use Rattle.pt_follow.proofs.Beginning.{follows_read, copy_reads, in_array_as, follows_none, none_reads, no_head_at}
use Rattle.pt_follow.proofs.begin.follow.Goals as goal

-- what holds of a copy with no header, where there is one
headless_ok : (P : FollowedCopy → Type 0) (side : Side) (n : ℕ) (e : CopyError) (r : Result FollowedCopy CopyError)
    → (failure_in e ≡ None → (c : FollowedCopy) → KnowsNoEntry side n c → P c) → IsHeadless side n e r → IfOk r P
headless_ok P side n e (Ok c) holds is = holds is.0 c is.1
headless_ok P side n e (Err f) holds is = tt

pub returns-in_err-bytes-clause-place : goal.returns-in_err-bytes-clause-place
returns-in_err-bytes-clause-place g c tells =
    let h = c.in-Ok.header in
    let n = c.known_with-known.result in
    let p = err_from_is_err_and c.from_residual.result c.from_residual.ensures.1 in
    rw (p.1, p.2) (failed_in (λ s. (h.array ≤ s) × (s < h.array + counted g.row.B n)) (SideReads g.row.B
    (g.D.Disk.told c.args.disk.now).seen c.args.side) _
    (λ s here. inr (h, c.in-Ok.ensures.ok tells, in_array_as g.row.B n h s c.known_with-known.ensures.sectors here))
    c.in_err-bytes.ensures.place)

pub returns-clause-ok : goal.returns-clause-ok
returns-clause-ok g c tells =
    let d = (g.D.Disk.told c.args.disk.now).seen in
    let h = c.in-Ok.header in
    let sized = g.met.D.Disk.sized c.args.disk.now tells in
    let read =
    subst (λ (s : Told). ReadArray g.row.B s.seen h.array c.known_with-known.result c.as_slice.result.now c.in_ok-bytes.bytes.items
    c.in_ok-bytes.sums.items c.in_ok-bytes.same.items)
    (c.in-Ok.ensures.same.same tells) (c.in_ok-bytes.ensures.ok tells) in
    follows_read g.row.B d c.args.side c.args.table.now h _ (rw sized c.requires.room) (c.in-Ok.ensures.ok tells)
    c.known_with-known.ensures.most (c.sectors-sectors.ensures ∙ sym sized) refl refl (rw c.as_slice.ensures at read)
    (rw c.deref.ensures.value at c.crc32.ensures)

pub returns-clause-reads : goal.returns-clause-reads
returns-clause-reads g c tells s within =
    let sized = g.met.D.Disk.sized c.args.disk.now tells in
    copy_reads g.row.B (g.D.Disk.told c.args.disk.now).seen c.args.side (g.D.Disk.count c.args.disk.now) c.in-Ok.header
    c.known_with-known.result s (c.in-Ok.ensures.ok tells) c.known_with-known.ensures.sectors (sym sized) within

pub returns-in-Err-clause-ok : goal.returns-in-Err-clause-ok
returns-in-Err-clause-ok g c tells =
    let d = (g.D.Disk.told c.args.disk.now).seen in
    let sized = g.met.D.Disk.sized c.args.disk.now tells in
    headless_ok (Follows g.row.B d c.args.side c.args.table.now) c.args.side c.sectors-sectors.result c.in-Err.error c.without_head.result
    (λ none x is. follows_none g.row.B d c.args.side c.args.table.now c.sectors-sectors.result x c.requires.size (rw sized c.requires.room)
    (c.sectors-sectors.ensures ∙ sym sized) (no_head_at g.row.B d c.args.side c.in-Err.error none (c.in-Err.ensures.err tells)) is)
    c.without_head.ensures

pub returns-in-Err-clause-reads : goal.returns-in-Err-clause-reads
returns-in-Err-clause-reads g c tells =
    let d = (g.D.Disk.told c.args.disk.now).seen in
    let sized = g.met.D.Disk.sized c.args.disk.now tells in
    let n = g.D.Disk.count c.args.disk.now in
    headless_ok (λ (x : FollowedCopy). (s : ℕ) → InCopy g.row.B n c.args.side x.known s → SideReads g.row.B d c.args.side s) c.args.side
    c.sectors-sectors.result c.in-Err.error c.without_head.result
    (λ none x is s within. none_reads g.row.B d c.args.side n x.known s c.requires.size is.known (sym sized) within)
    c.without_head.ensures
