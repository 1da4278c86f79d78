use Rattle.std.proofs.Common.{◌≡◌, ℕ, ◌+◌, [], ◌∷◌, ◌++◌, map, take, subst, rules, arith}
use Rattle.std.proofs.lemmas.List.{take_all}
use Rattle.pt_cases.specs.declared.primary.Primary.TheVariants.{Zeroed}
use Rattle.pt_plan.specs.Batches.{Words, Commits}
use Rattle.pt_plan.specs.Sessions.{batch_of, CommitsByReads}
use Rattle.pt_plan.specs.inner.Sessions.{Tried}
use Rattle.pt_plan.proofs.Replying.{mapped_next, words_are, replies_on, are_replies, blames_on, session_on}
use Rattle.pt_plan.proofs.runs.sessions.session.Goals as goal

pub loop-batch-preserved : goal.loop-batch-preserved
loop-batch-preserved g c =
    let next : map batch_of (take (c.loop-batch.batch-index + 1) c.args.batches.now) ≡ map batch_of
    (take c.loop-batch.batch-index c.args.batches.now) ++ batch_of c.batch-item.result ∷ []
    = mapped_next batch_of c.args.batches.now c.loop-batch.batch-index c.batch-item.result c.loop-batch-test.true c.batch-item.is in
    record {
      count = search rules;
      name = search rules;
      room = grind arith;
      len = grind arith;
      so_far =
          rw (next, c.push_reserved.ensures.items)
          (replies_on (map batch_of
          (take c.loop-batch.batch-index c.args.batches.now)) c.loop-batch.replies.items _ _ _ c.loop-batch.faulted _
          c.loop-batch.invariant.so_far c.attempt-reply.ensures.replied);
      blames =
          rw c.push_reserved.ensures.items
          (blames_on c.loop-batch.replies.items c.attempt-reply.result (g.D.Disk.faults c.args.disk.now)
          (g.D.Disk.faults c.loop-batch.disk) _
          c.loop-batch.invariant.blames c.attempt-reply.ensures.blames);
      session = λ tells. rw (next, c.push_reserved.ensures.items)
          (session_on (Commits Zeroed g.row.B (g.D.Disk.count c.args.disk.now))
          (map batch_of (take c.loop-batch.batch-index c.args.batches.now)) c.loop-batch.replies.items
          (batch_of c.batch-item.result) c.attempt-reply.result c.loop-batch.faulted c.attempt-reply.new.faulted
          (g.D.Disk.told c.args.disk.now) (g.D.Disk.told c.loop-batch.disk) (g.D.Disk.told c.attempt-reply.new.disk)
          (c.loop-batch.invariant.session tells) c.attempt-reply.ensures.replied
          (subst (λ (words : Words). Tried (Commits Zeroed g.row.B (g.D.Disk.count c.args.disk.now)) words c.attempt-reply.result
          (g.D.Disk.told c.loop-batch.disk) (g.D.Disk.told c.attempt-reply.new.disk))
          (words_are _ _ _ _ c.as_slice.ensures.value c.as_slice-in-loop-batch.ensures.value)
          (subst (λ (n : ℕ). Tried (Commits Zeroed g.row.B n)
          (record { edits = c.as_slice.result.now; guids = c.as_slice-in-loop-batch.result.now }) c.attempt-reply.result
          (g.D.Disk.told c.loop-batch.disk) (g.D.Disk.told c.attempt-reply.new.disk))
          c.loop-batch.invariant.count (c.attempt-reply.ensures.tried tells))));
      place = λ tells. rw (next, c.push_reserved.ensures.items)
          (session_on (CommitsByReads Zeroed g.row.B (g.D.Disk.count c.args.disk.now))
          (map batch_of (take c.loop-batch.batch-index c.args.batches.now)) c.loop-batch.replies.items
          (batch_of c.batch-item.result) c.attempt-reply.result c.loop-batch.faulted c.attempt-reply.new.faulted
          (g.D.Disk.told c.args.disk.now) (g.D.Disk.told c.loop-batch.disk) (g.D.Disk.told c.attempt-reply.new.disk)
          (c.loop-batch.invariant.place tells) c.attempt-reply.ensures.replied
          (subst (λ (words : Words). Tried (CommitsByReads Zeroed g.row.B (g.D.Disk.count c.args.disk.now)) words c.attempt-reply.result
          (g.D.Disk.told c.loop-batch.disk) (g.D.Disk.told c.attempt-reply.new.disk))
          (words_are _ _ _ _ c.as_slice.ensures.value c.as_slice-in-loop-batch.ensures.value)
          (subst (λ (n : ℕ). Tried (CommitsByReads Zeroed g.row.B n)
          (record { edits = c.as_slice.result.now; guids = c.as_slice-in-loop-batch.result.now }) c.attempt-reply.result
          (g.D.Disk.told c.loop-batch.disk) (g.D.Disk.told c.attempt-reply.new.disk))
          c.loop-batch.invariant.count (c.attempt-reply.ensures.place tells))));
    }

pub returns-clause-replies : goal.returns-clause-replies
returns-clause-replies g c = are_replies _ _ c.loop-batch.faulted
    (rw (take_all c.loop-batch.batch-index c.args.batches.now (omega arith)) at c.loop-batch.invariant.so_far)
