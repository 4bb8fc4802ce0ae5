use Rattle.std.proofs.Common.{◌≡◌, ◌++◌, ◌∷◌, [], Ok, refl, ap, rules}
use Rattle.std.specs.Fn.{FnReturnsAt}
use Rattle.std.proofs.lemmas.Fn.{says_at}
use Rattle.pn_bag.proofs.Copying.{copy_step, equal_step}
use Rattle.pn_bag.proofs.copies.copy_into.Goals as goal

-- the call answered Ok of the key's copy
pub loop-entry-preserved : goal.loop-entry-preserved
loop-entry-preserved g c =
    let x = c.entry-item.result in
    let key = c.in_ok-key.key in
    let items : c.push.new.self.items ≡ c.loop-entry.copied.items ++ (key, x.1) ∷ [] = search rules in
    let answered : FnReturnsAt g.F.Fn c.args.copy x.0 (Ok key) = says_at g.F.Fn c.copy.ensures c.in_ok-key.was in
    record {
      callable = c.loop-entry.invariant.callable;
      copied = copy_step g.K.Ord.cmp _ _ _ _ x (key, x.1) c.loop-entry-test.true c.entry-item.is items c.loop-entry.invariant.copied (c.requires.same x.0 key answered) refl;
      equal = λ equals. equal_step _ _ _ _ x (key, x.1) c.loop-entry-test.true c.entry-item.is items (c.loop-entry.invariant.equal equals) (ap (λ k. (k, x.1)) (equals x.0 key answered));
    }
