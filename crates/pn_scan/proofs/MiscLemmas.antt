-- What begins outside the root.
use Rattle.std.proofs.Common.{◌≡◌, ℕ, ◌+◌, false, List, [], ◌∷◌, ◌++◌, length, Some, None, refl, sym, ap, ◌∙◌, subst, append_assoc, arith}
use Rattle.std.proofs.lemmas.Bool.{false≢true}
use Rattle.pn_markup.specs.Bytes.{is_space}
use Rattle.pn_markup.specs.Misc.{Misc, nothing, space, comment, instruction}
use Rattle.pn_markup.specs.Content.{Spells}
use Rattle.pn_tree.specs.declared.element.Element.{Element}
use Rattle.pn_scan.specs.State.{Nesting, before, behind, room_at}
use Rattle.pn_scan.specs.Rest.{Body, Resumed, Begun, a_comment, an_instruction, a_section, a_reference, an_end, a_tag}
use Rattle.pn_scan.proofs.Tools.{head_is, no_head}
use Rattle.pn_scan.proofs.PieceLemmas.{some_is}
use Rattle.pn_scan.proofs.ElementLemmas.{Tagged, over_tagged, tagged_over}
use Rattle.pn_scan.proofs.BegunLemmas.{not_within, not_inside}

no_room : (room : ℕ × List Element) → None ≡ Some room → ⊥
no_room room h = cc

module _ (N : ℕ) (t : Element) where
  -- before the root, at a byte that is no white space
  pub body_begun : (at x : ℕ) (c : List ℕ) → at + length (x ∷ c) ≡ N → is_space x ≡ false → Body N t (x ∷ c) → Begun N t at before (x ∷ c)
  body_begun at x c offset h b = go b.misc b.is_misc b.whole
    where
      go : (m : List ℕ) → Misc m → x ∷ c ≡ m ++ (b.root ++ b.last) → Begun N t at before (x ∷ c)
      go m (nothing _ i) w =
          let all : x ∷ c ≡ b.root ++ b.last = w ∙ ap (λ l. l ++ (b.root ++ b.last)) i in
          let same : b.at ≡ at = omega (arith, offset, b.offset, ap length all) in
          let g = over_tagged N t at 255 [] (x ∷ c) offset (record {
            element = t;
            bytes = b.root;
            rest = b.last;
            is_element = subst (λ n. Spells 256 n t b.root) same b.is_root;
            goes_on = (refl, b.is_last);
            is = all;
          }) in
          a_tag before (x ∷ c) 255 [] g.element g.tag g.rest refl g.is_tag g.is_end g.is
      go m (space _ one rest s more i) w =
          absurd (false≢true (sym h ∙ ap is_space (head_is x one c (rest ++ (b.root ++ b.last)) (w ∙ ap (λ l. l ++ (b.root ++ b.last)) i)) ∙ s))
      go m (comment _ bytes rest s more i) w =
          a_comment before (x ∷ c) bytes (rest ++ (b.root ++ b.last)) s
          (record { misc = rest; root = b.root; last = b.last; at = b.at; is_misc = more; is_root = b.is_root; is_last = b.is_last; offset = b.offset; whole = refl })
          (w ∙ ap (λ l. l ++ (b.root ++ b.last)) i ∙ append_assoc bytes rest (b.root ++ b.last))
      go m (instruction _ bytes rest s more i) w =
          an_instruction before (x ∷ c) bytes (rest ++ (b.root ++ b.last)) s
          (record { misc = rest; root = b.root; last = b.last; at = b.at; is_misc = more; is_root = b.is_root; is_last = b.is_last; offset = b.offset; whole = refl })
          (w ∙ ap (λ l. l ++ (b.root ++ b.last)) i ∙ append_assoc bytes rest (b.root ++ b.last))

  tag_body : (at : ℕ) (c : List ℕ) (m : ℕ) (es : List Element) → at + length c ≡ N → room_at before ≡ Some (m, es) → Tagged N t at m es c → Body N t c
  tag_body at c m es offset h g =
      let pair : (255, []) ≡ (m, es) = some_is (255, []) (m, es) h in
      let g2 = subst (λ (q : ℕ × List Element). Tagged N t at q.0 q.1 c) (sym pair) g in
      let o = tagged_over N t at 255 [] c offset g2 in
      record {
        misc = [];
        root = o.bytes;
        last = o.rest;
        at = at;
        is_misc = nothing [] refl;
        is_root = subst (λ f. Spells 256 at f o.bytes) (sym o.goes_on.0) o.is_element;
        is_last = o.goes_on.1;
        offset = ap (λ l. at + length l) (sym o.is) ∙ offset;
        whole = o.is;
      }

  pub begun_body : (at : ℕ) (c : List ℕ) → at + length c ≡ N → Begun N t at before c → Body N t c
  begun_body at c offset b = go before c b refl offset
    where
      put : (d bytes rest : List ℕ) → d ≡ bytes ++ rest → (r : Body N t rest) → Misc (bytes ++ r.misc) → Body N t d
      put d bytes rest w r m =
          record {
            misc = bytes ++ r.misc;
            root = r.root;
            last = r.last;
            at = r.at;
            is_misc = m;
            is_root = r.is_root;
            is_last = r.is_last;
            offset = r.offset;
            whole = w ∙ ap (λ l. bytes ++ l) r.whole ∙ sym (append_assoc bytes r.misc (r.root ++ r.last));
          }

      go : (nesting : Nesting) (d : List ℕ) → Begun N t at nesting d → before ≡ nesting → at + length d ≡ N → Body N t d
      go nesting d (a_comment _ _ bytes rest m r w) h o =
          let s : Body N t rest = subst (λ q. Resumed N t q rest) (sym h) r in put d bytes rest w s (comment (bytes ++ s.misc) bytes s.misc m s.is_misc refl)
      go nesting d (an_instruction _ _ bytes rest m r w) h o =
          let s : Body N t rest = subst (λ q. Resumed N t q rest) (sym h) r in put d bytes rest w s (instruction (bytes ++ s.misc) bytes s.misc m s.is_misc refl)
      go nesting d (a_section _ _ l e es raw bytes rest i s r w) h o = absurd (not_within l e es (h ∙ i))
      go nesting d (a_reference _ _ l e es text bytes rest i s r w) h o = absurd (not_within l e es (h ∙ i))
      go nesting d (an_end _ _ l e es bytes rest i s r w) h o = absurd (not_within l e es (h ∙ i))
      go nesting d (a_tag _ _ l es e bytes rest i s r w) h o = tag_body at d l es o (ap room_at h ∙ i) (record { element = e; tag = bytes; rest = rest; is_tag = s; is_end = r; is = w })

  -- behind the root
  pub end_begun : (at x : ℕ) (root : Element) (c : List ℕ) → is_space x ≡ false → (t ≡ root) × Misc (x ∷ c) → Begun N t at (behind root) (x ∷ c)
  end_begun at x root c h r = go (x ∷ c) r.1 refl
    where
      go : (d : List ℕ) → Misc d → x ∷ c ≡ d → Begun N t at (behind root) (x ∷ c)
      go d (nothing _ i) w = absurd (no_head x c (sym (w ∙ i)))
      go d (space _ one rest s more i) w = absurd (false≢true (sym h ∙ ap is_space (head_is x one c rest (w ∙ i)) ∙ s))
      go d (comment _ bytes rest s more i) w = a_comment (behind root) (x ∷ c) bytes rest s (r.0, more) (w ∙ i)
      go d (instruction _ bytes rest s more i) w = an_instruction (behind root) (x ∷ c) bytes rest s (r.0, more) (w ∙ i)

  pub begun_end : (at : ℕ) (root : Element) (c : List ℕ) → Begun N t at (behind root) c → (t ≡ root) × Misc c
  begun_end at root c b = go (behind root) c b refl
    where
      go : (nesting : Nesting) (d : List ℕ) → Begun N t at nesting d → behind root ≡ nesting → (t ≡ root) × Misc d
      go nesting d (a_comment _ _ bytes rest m r w) h =
          let s : (t ≡ root) × Misc rest = subst (λ q. Resumed N t q rest) (sym h) r in (s.0, comment d bytes rest m s.1 w)
      go nesting d (an_instruction _ _ bytes rest m r w) h =
          let s : (t ≡ root) × Misc rest = subst (λ q. Resumed N t q rest) (sym h) r in (s.0, instruction d bytes rest m s.1 w)
      go nesting d (a_section _ _ l e es raw bytes rest i s r w) h = absurd (not_inside l root e es (h ∙ i))
      go nesting d (a_reference _ _ l e es text bytes rest i s r w) h = absurd (not_inside l root e es (h ∙ i))
      go nesting d (an_end _ _ l e es bytes rest i s r w) h = absurd (not_inside l root e es (h ∙ i))
      go nesting d (a_tag _ _ l es e bytes rest i s r w) h = absurd (no_room (l, es) (ap room_at h ∙ i))
