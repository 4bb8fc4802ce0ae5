use Rattle.std.proofs.Common.{◌<◌, ap, ◌∙◌, sym, subst, length}
use Rattle.std.proofs.lemmas.Option.{slice_get_within}
use Rattle.pn_mode_text.specs.Texts.{token_text}
use Rattle.pn_mode_text.proofs.NetLemmas.{is_token_text, member_of}
use Rattle.pn_mode_text.proofs.modes.put_token.Goals as goal

pub put_placed-requires : goal.put_placed-requires
put_placed-requires g c = member_of c.args.net.now c.args.token.now c.decls.result.now c.place_sort-sort.result.now c.decls.ensures.declared c.place_sort-sort.ensures c.requires

pub returns-clause-puts : goal.returns-clause-puts
returns-clause-puts g c =
    let ds = c.decls.result.now in
    let sort = c.place_sort-sort.result.now in
    let same = c.as_slice.ensures ∙ ap (λ f. f.places) c.flat.ensures.flat in
    let within : c.args.token.now.place < length c.as_slice.result.now =
    subst (λ ps. c.args.token.now.place < length ps) (sym same) (slice_get_within c.args.net.now.places c.args.token.now.place c.place_sort-sort.ensures.0 c.place_sort-sort.ensures.1) in (
      token_text ds c.as_str.result.now sort c.args.token.now.value,
      is_token_text c.args.net.now c.args.token.now ds c.as_slice.result.now c.index-as_slice-token.result c.as_str.result.now sort c.decls.ensures.declared same within c.index-as_slice-token.is c.as_str.ensures c.place_sort-sort.ensures,
      c.put_placed.ensures.puts,
    )
