use Rattle.std.proofs.Common.{◌≡◌, ℕ, ◌<◌, ◌≤◌, length, sym, subst, arith}
use Rattle.pn_cycles.specs.Searches.{group_at}
use Rattle.pn_cycles.proofs.Paths.{some_group, first_start}
use Rattle.pn_cycles.proofs.Joining.{joins, cut_size, cut_top, cut_below}
use Rattle.pn_cycles.proofs.search.Search.join.Goals as goal

pub group_of-at-requires-clause-some : goal.group_of-at-requires-clause-some
group_of-at-requires-clause-some c =
    subst (λ gs. 0 < length gs) (sym c.deref.ensures.value) (some_group _ _ _ _ _ _ _ _ _ (omega (arith, c.requires.place)) c.requires.search.2.grouped)

pub group_of-at-requires-clause-first : goal.group_of-at-requires-clause-first
group_of-at-requires-clause-first c =
    let is = c.requires.search.2 in
    let some : 0 < length c.args.self.now.path.items = some_group _ _ _ _ _ _ _ _ _ (omega (arith, c.requires.place)) is.grouped in
    let first : (group_at c.args.self.now.path.items 0).start ≡ 0 = first_start _ _ _ _ _ _ _ _ _ some is.grouped in
    let low : (group_at c.args.self.now.path.items 0).start ≤ c.args.place = omega (arith, first) in
    subst (λ gs. (group_at gs 0).start ≤ c.args.place) (sym c.deref.ensures.value) low

pub returns-clause-search : goal.returns-clause-search
returns-clause-search c edges is lead =
    let path = c.args.self.now.path.items in
    let at = c.group_of-at.result in
    let found = c.group_of-at.ensures in
    let place = (is.stacked c.args.place (omega (arith, c.requires.place))).1 in
    let within : at < length path = subst (λ gs. at < length gs) c.deref.ensures.value found.within in
    let start : (group_at path at).start ≤ c.args.place = subst (λ gs. (group_at gs at).start ≤ c.args.place) c.deref.ensures.value found.start in
    let above : (i : ℕ) → at < i → i < length path → c.args.place < (group_at path i).start = subst (λ gs. (i : ℕ) → at < i → i < length gs → c.args.place < (group_at gs i).start) c.deref.ensures.value found.above in
    joins edges _ _ _ _ _ _ place _ _ _ at is lead within start above (cut_size path _ at c.index_mut.result.now within c.truncate.ensures.items c.index_mut.ensures.value) (cut_top path _ at c.index_mut.result.now within c.truncate.ensures.items c.index_mut.ensures.value) (cut_below path _ at c.index_mut.result.now within c.truncate.ensures.items c.index_mut.ensures.value)
