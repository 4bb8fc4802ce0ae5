use Rattle.std.proofs.Common.{◌≡◌, ◌+◌, ◌↔◌, ◌∙◌, IsOk, OnOk, subst}
use Rattle.pn_bag.specs.Algebra.{joined}
use Rattle.pn_bag.specs.Counts.{Includes, IsSame, count_of}
use Rattle.pn_bag.proofs.Summing.{lessened_on_ok}
use Rattle.pn_bag.proofs.multiset.Bag.less.Goals as goal

pub returns-clause-ok : goal.returns-clause-ok
returns-clause-ok g c =
    subst (λ old. OnOk c.less_entries.result (IsSame g.K.Ord.cmp (joined g.K.Ord.cmp c.less_entries.new.entries.items c.args.other.now) old)) c.self.view_is (
    subst (λ less. OnOk c.less_entries.result (IsSame g.K.Ord.cmp (joined g.K.Ord.cmp c.less_entries.new.entries.items less) c.self.inside.entries.items)) (c.deref.ensures.value ∙ c.other.view_is) (
    lessened_on_ok g.met.K.Ord.total _ _ _ _ c.less_entries.ensures.counts))

pub returns-clause-counts : goal.returns-clause-counts
returns-clause-counts g c =
    subst (λ old. OnOk c.less_entries.result ((key : g.row.K.Denot) → count_of g.K.Ord.cmp c.less_entries.new.entries.items key + count_of g.K.Ord.cmp c.args.other.now key ≡ count_of g.K.Ord.cmp old key)) c.self.view_is (
    subst (λ less. OnOk c.less_entries.result ((key : g.row.K.Denot) → count_of g.K.Ord.cmp c.less_entries.new.entries.items key + count_of g.K.Ord.cmp less key ≡ count_of g.K.Ord.cmp c.self.inside.entries.items key)) (c.deref.ensures.value ∙ c.other.view_is) c.less_entries.ensures.counts)

pub returns-clause-exact : goal.returns-clause-exact
returns-clause-exact g c =
    subst (λ old. IsOk c.less_entries.result ↔ Includes g.K.Ord.cmp old c.args.other.now) c.self.view_is (
    subst (λ less. IsOk c.less_entries.result ↔ Includes g.K.Ord.cmp c.self.inside.entries.items less) (c.deref.ensures.value ∙ c.other.view_is) c.less_entries.ensures.exact)
