use Rattle.std.proofs.Common.{◌≡◌, ◌++◌, ◌∷◌, [], rules, arith}
use Rattle.pn_bag.proofs.Joining.{fits_still, merged_more}
use Rattle.pn_bag.proofs.merges.merge.Goals as goal

pub loop-entry-preserved : goal.loop-entry-preserved
loop-entry-preserved g c =
    let old = c.loop-entry.invariant in
    let takes = c.in-Some.ensures.some in
    let items : c.push.new.self.items ≡ c.loop-entry.merged.items ++ c.in-Some.entry ∷ [] = search rules in
    record {
      left = c.in-Some.ensures.left;
      right = c.in-Some.ensures.right;
      fits = fits_still g.met.K.Ord.total _ _ _ _ _ takes old.fits;
      room = omega (arith, c.push.ensures.capacity, c.push.ensures.upper_bound, c.in-Some.ensures.shorter);
      whole = merged_more _ _ _ _ _ _ old.whole takes items;
    }
