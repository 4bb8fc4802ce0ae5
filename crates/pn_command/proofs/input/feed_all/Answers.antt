use Rattle.std.proofs.Common.{◌+◌, inr, refl, ◌∙◌, take, subst, arith}
use Rattle.std.proofs.lemmas.List.{length-take-le}
use Rattle.std.specs.Io.KnownBytes.{Consumes}
use Rattle.pn_command.specs.Reading.{IsFed}
use Rattle.pn_command.proofs.ReadingLemmas.{at_first, gave_nothing, kept, no_further, nothing_more, nothing_said, one_piece, refused, rose_before, take_small, takes_begun, was_fed, within_limit}
use Rattle.pn_command.proofs.input.feed_all.Goals as goal

pub loop-count-init : goal.loop-count-init
loop-count-init g c = record { so_far = at_first c.args.scanner.now (g.S.Source.left c.args.source.now) c.requires.fed c.requires.no_fault; later = omega arith; unfailed = refl }

pub returns-in-Ok-eq0-clause-fed : goal.returns-in-Ok-eq0-clause-fed
returns-in-Ok-eq0-clause-fed g c =
    let left = g.S.Source.left in
    let none = subst (λ n. Consumes (left c.loop-count.source) (left c.read.new.self) (take n c.read.new.into)) c.in-Ok-eq0.field-0-test c.in-Ok-eq0.ensures.reads.0 in
    (c.loop-count.count, gave_nothing c.loop-count.scanner (left c.args.source.now) (left c.loop-count.source) c.loop-count.count c.loop-count.invariant.so_far (left c.read.new.self) none)

pub returns-in-Ok-eq0-clause-no_further : goal.returns-in-Ok-eq0-clause-no_further
returns-in-Ok-eq0-clause-no_further g c =
    let left = g.S.Source.left in
    let none = subst (λ n. Consumes (left c.loop-count.source) (left c.read.new.self) (take n c.read.new.into)) c.in-Ok-eq0.field-0-test c.in-Ok-eq0.ensures.reads.0 in
    let all = gave_nothing c.loop-count.scanner (left c.args.source.now) (left c.loop-count.source) c.loop-count.count c.loop-count.invariant.so_far (left c.read.new.self) none in
    nothing_more c.loop-count.scanner (left c.args.source.now) (left c.read.new.self) c.loop-count.count all

pub returns-in-Ok-eq0-clause-later : goal.returns-in-Ok-eq0-clause-later
returns-in-Ok-eq0-clause-later g c = omega (arith, c.loop-count.invariant.later, c.in-Ok-eq0.ensures.cause.later)

pub returns-in-Ok-eq0-clause-told : goal.returns-in-Ok-eq0-clause-told
returns-in-Ok-eq0-clause-told g c = inr (c.in-Ok-eq0.ensures.counted ∙ c.loop-count.invariant.unfailed)

pub feed-requires : goal.feed-requires
feed-requires g c = was_fed c.loop-count.scanner (g.S.Source.left c.args.source.now) (g.S.Source.left c.loop-count.source) c.loop-count.count c.loop-count.invariant.so_far

pub loop-count-preserved : goal.loop-count-preserved
loop-count-preserved g c =
    let left = g.S.Source.left in
    record {
      so_far = subst (λ n. IsFed c.feed.new.self (left c.args.source.now) (left c.read.new.self) (c.loop-count.count + n)) (length-take-le c.in-Ok.size c.read.new.into c.in-Ok.ensures.bound.0)
          (one_piece c.loop-count.scanner (left c.args.source.now) (left c.loop-count.source) c.loop-count.count c.loop-count.invariant.so_far (left c.read.new.self) c.feed.new.self
          (take c.in-Ok.size c.read.new.into) c.in-Ok.ensures.reads.0 c.in-Ok-feed.ensures.read c.in-Ok-feed.ensures.answer c.in-Ok-feed.ensures.goes);
      later = omega (arith, c.loop-count.invariant.later, c.in-Ok.ensures.cause.later);
      unfailed = c.in-Ok.ensures.counted ∙ c.loop-count.invariant.unfailed;
    }

pub returns-in-Err-feed-clause-says : goal.returns-in-Err-feed-clause-says
returns-in-Err-feed-clause-says g c =
    let left = g.S.Source.left in
    refused c.loop-count.scanner (left c.args.source.now) (left c.loop-count.source) c.loop-count.count c.loop-count.invariant.so_far (left c.read.new.self) c.feed.new.self (take c.in-Ok.size c.read.new.into)
    c.in-Err-feed.fault c.in-Ok.ensures.reads.0 c.in-Err-feed.ensures.read c.in-Err-feed.ensures.broken c.in-Err-feed.ensures.too_long

pub returns-in-Err-feed-clause-no_further : goal.returns-in-Err-feed-clause-no_further
returns-in-Err-feed-clause-no_further g c =
    let left = g.S.Source.left in
    no_further c.loop-count.scanner (left c.args.source.now) (left c.loop-count.source) c.loop-count.count c.loop-count.invariant.so_far (left c.read.new.self) (take c.in-Ok.size c.read.new.into) c.in-Ok.ensures.reads.0
    (take_small c.in-Ok.size c.read.new.into c.in-Ok.ensures.bound.0 (omega (arith, c.read.auto.into)))

pub returns-in-Err-feed-clause-later : goal.returns-in-Err-feed-clause-later
returns-in-Err-feed-clause-later g c = omega (arith, c.loop-count.invariant.later, c.in-Ok.ensures.cause.later)

pub returns-in-Err-feed-clause-told : goal.returns-in-Err-feed-clause-told
returns-in-Err-feed-clause-told g c = inr (c.in-Ok.ensures.counted ∙ c.loop-count.invariant.unfailed)

pub returns-in-Err-clause-says : goal.returns-in-Err-clause-says
returns-in-Err-clause-says g c = nothing_said (g.S.Source.left c.args.source.now)

pub returns-in-Err-clause-no_further : goal.returns-in-Err-clause-no_further
returns-in-Err-clause-no_further g c =
    let left = g.S.Source.left in
    let all = kept c.loop-count.scanner (left c.args.source.now) (left c.loop-count.source) c.loop-count.count c.loop-count.invariant.so_far (left c.read.new.self) c.in-Err.ensures.reads in
    nothing_more c.loop-count.scanner (left c.args.source.now) (left c.read.new.self) c.loop-count.count all

pub returns-in-Err-clause-at_fault : goal.returns-in-Err-clause-at_fault
returns-in-Err-clause-at_fault g c same =
    let left = g.S.Source.left in
    let all = kept c.loop-count.scanner (left c.args.source.now) (left c.loop-count.source) c.loop-count.count c.loop-count.invariant.so_far (left c.read.new.self) c.in-Err.ensures.reads in
    takes_begun c.loop-count.scanner (left c.args.source.now) (left c.read.new.self) c.loop-count.count all

pub returns-in-Err-clause-later : goal.returns-in-Err-clause-later
returns-in-Err-clause-later g c = omega (arith, c.loop-count.invariant.later, c.in-Err.ensures.cause.later)

pub returns-in-Err-clause-cause : goal.returns-in-Err-clause-cause
returns-in-Err-clause-cause g c same =
    let faults = g.S.Source.faults in
    rose_before (faults c.args.source.now) (faults c.loop-count.source) (faults c.read.new.self) c.loop-count.invariant.later c.in-Err.ensures.cause.failed

pub unreachable-requires : goal.unreachable-requires
unreachable-requires g c =
    let within = within_limit c.loop-count.scanner (g.S.Source.left c.args.source.now) (g.S.Source.left c.loop-count.source) c.loop-count.count c.loop-count.invariant.so_far in
    absurd (omega (arith, c.loop-count-test.false))
