use Rattle.std.proofs.Common.{◌≡◌, ◌<◌, length, Some, refl, sym, ap, ◌∙◌, arith}
use Rattle.std.specs.List.{list_any, slice_get}
use Rattle.std.specs.Str.{bytes_eq}
use Rattle.pn_scan.proofs.NameLemmas.{place_of, none_left, within_some, found_here, found_behind}
use Rattle.pn_scan.proofs.names.is_among.Goals as goal

pub loop-span-init : goal.loop-span-init
loop-span-init c = record { within = omega arith; left = λ names h. refl }

pub is_here-requires-clause-ordered : goal.is_here-requires-clause-ordered
is_here-requires-clause-ordered c =
    let is : slice_get c.args.spans.now c.loop-span.index ≡ Some c.in-Some.span = sym c.span_at.ensures.value ∙ c.in-Some.is in
    (place_of c.requires.0 c.args.bytes.now c.args.spans.now c.loop-span.index c.in-Some.span c.requires.1 is).ordered

pub is_here-requires-clause-within : goal.is_here-requires-clause-within
is_here-requires-clause-within c =
    let is : slice_get c.args.spans.now c.loop-span.index ≡ Some c.in-Some.span = sym c.span_at.ensures.value ∙ c.in-Some.is in
    (place_of c.requires.0 c.args.bytes.now c.args.spans.now c.loop-span.index c.in-Some.span c.requires.1 is).within

pub returns-then-is_here : goal.returns-then-is_here
returns-then-is_here c names h =
    let is : slice_get c.args.spans.now c.loop-span.index ≡ Some c.in-Some.span = sym c.span_at.ensures.value ∙ c.in-Some.is in
    let place = place_of names c.args.bytes.now c.args.spans.now c.loop-span.index c.in-Some.span h is in
    found_here c.args.name.now names c.args.bytes.now c.loop-span.index c.in-Some.span place (sym c.if-is_here.true ∙ c.is_here.ensures) ∙ sym (c.loop-span.invariant.left names h)

pub loop-span-smaller : goal.loop-span-smaller
loop-span-smaller c =
    let is : slice_get c.args.spans.now c.loop-span.index ≡ Some c.in-Some.span = sym c.span_at.ensures.value ∙ c.in-Some.is in
    let less : c.loop-span.index < length c.args.spans.now = within_some c.args.spans.now c.loop-span.index c.in-Some.span is in
    omega arith

pub loop-span-preserved : goal.loop-span-preserved
loop-span-preserved c =
    let i = c.loop-span.index in
    let is : slice_get c.args.spans.now i ≡ Some c.in-Some.span = sym c.span_at.ensures.value ∙ c.in-Some.is in
    let less : i < length c.args.spans.now = within_some c.args.spans.now i c.in-Some.span is in
    record {
      within = omega arith;
      left = λ names h.
          let place = place_of names c.args.bytes.now c.args.spans.now i c.in-Some.span h is in
          c.loop-span.invariant.left names h ∙ found_behind c.args.name.now names c.args.bytes.now i c.in-Some.span place (sym c.if-is_here.false ∙ c.is_here.ensures);
    }

pub returns : goal.returns
returns c names h =
    let none = none_left names c.args.bytes.now c.args.spans.now c.loop-span.index h (sym c.span_at.ensures.value ∙ c.in_default.is) in
    sym (c.loop-span.invariant.left names h ∙ ap (list_any (λ n. bytes_eq n c.args.name.now)) none)
