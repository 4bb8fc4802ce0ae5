use Rattle.std.proofs.Common.{◌≡◌, ◌*◌, OnOk, subst}
use Rattle.pn_bag.specs.Counts.{count_of}
use Rattle.pn_bag.proofs.Summing.{scaled_on_ok}
use Rattle.pn_bag.proofs.multiset.Bag.scale.Goals as goal

pub returns-clause-counts : goal.returns-clause-counts
returns-clause-counts g c =
    subst (λ old. OnOk c.scale_entries.result ((key : g.row.K.Denot) → count_of g.K.Ord.cmp c.scale_entries.new.entries.items key ≡ c.args.by * count_of g.K.Ord.cmp old key)) c.self.view_is (
    scaled_on_ok g.K.Ord.cmp _ _ _ _ c.scale_entries.ensures.ok)
