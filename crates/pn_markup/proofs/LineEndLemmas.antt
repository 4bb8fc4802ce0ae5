-- A text whose line ends, or whose white space, is read as XML says is a text.
use Rattle.std.proofs.Common.{◌≡◌, ℕ, Bool, true, false, cond, ◌==◌, ◌&&◌, List, [], ◌∷◌, ◌++◌, refl, sym, ap, ◌∙◌, arith}
use Rattle.std.specs.List.{list_all, flat_map}
use Rattle.std.proofs.lemmas.Bool.Decides.{nat_tests}
use Rattle.pn_text.specs.Characters.{is_character, utf8_of, is_text}
use Rattle.pn_text.proofs.TextLemmas.{is_text-append, is_past, Encoded, ascii, past, encoded, text_characters, is_text-character}
use Rattle.pn_facts.proofs.Truths.{and_left, and_right}
use Rattle.pn_markup.specs.Bytes.{is_space, line_ends_behind, line_ends, spaced_behind, spaced}

-- what becomes of a byte in ASCII: one that stands for it, or none
data Step (read : Bool → List ℕ → List ℕ) (cr : Bool) (b : ℕ) (bs : List ℕ) : Type 0 where
  kept : (x : ℕ) (next : Bool) → is_text (x ∷ []) ≡ true → read cr (b ∷ bs) ≡ x ∷ read next bs → Step read cr b bs
  dropped : (next : Bool) → read cr (b ∷ bs) ≡ read next bs → Step read cr b bs

module _ (read : Bool → List ℕ → List ℕ) (ends : (cr : Bool) → read cr [] ≡ []) (high : (cr : Bool) (b : ℕ) (bs : List ℕ) → is_past b ≡ true → read cr (b ∷ bs) ≡ b ∷ read false bs) (low : (cr : Bool) (b : ℕ) (bs : List ℕ) → is_text (b ∷ []) ≡ true → Step read cr b bs) where
  high_bytes : (more bs : List ℕ) → list_all is_past more ≡ true → read false (more ++ bs) ≡ more ++ read false bs
  high_bytes [] bs h = refl
  high_bytes (m ∷ more) bs h =
      high false m (more ++ bs) (and_left (is_past m) (list_all is_past more) h) ∙ ap (λ l. m ∷ l) (high_bytes more bs (and_right (is_past m) (list_all is_past more) h))

  step_text : (cr : Bool) (b : ℕ) (bs : List ℕ) → ((next : Bool) → is_text (read next bs) ≡ true) → Step read cr b bs → is_text (read cr (b ∷ bs)) ≡ true
  step_text cr b bs f (kept x next t is) = ap is_text is ∙ is_text-append (x ∷ []) (read next bs) t (f next)
  step_text cr b bs f (dropped next is) = ap is_text is ∙ f next

  character_read : (cr : Bool) (c : ℕ) (bs : List ℕ) → is_character c ≡ true → ((next : Bool) → is_text (read next bs) ≡ true) → Encoded c (utf8_of c)
      → is_text (read cr (utf8_of c ++ bs)) ≡ true
  character_read cr c bs h f (ascii lt one) =
      ap (λ l. is_text (read cr (l ++ bs))) one ∙ step_text cr c bs f (low cr c bs (ap is_text (sym one) ∙ is_text-character c h))
  character_read cr c bs h f (past lt first more bytes all) =
      ap (λ l. is_text (read cr (l ++ bs))) bytes
      ∙ ap is_text (high cr first (more ++ bs) (and_left (is_past first) (list_all is_past more) all) ∙ ap (λ l. first ∷ l) (high_bytes more bs (and_right (is_past first) (list_all is_past more) all)))
      ∙ is_text-append (first ∷ more) (read false bs) (ap is_text (sym bytes) ∙ is_text-character c h) (f false)

  characters_read : (cr : Bool) (cs : List ℕ) → list_all is_character cs ≡ true → is_text (read cr (flat_map utf8_of cs)) ≡ true
  characters_read cr [] h = ap is_text (ends cr)
  characters_read cr (c ∷ cs) h =
      character_read cr c (flat_map utf8_of cs) (and_left (is_character c) (list_all is_character cs) h)
      (λ next. characters_read next cs (and_right (is_character c) (list_all is_character cs) h)) (encoded c)

  text_read : (cr : Bool) (bs : List ℕ) → is_text bs ≡ true → is_text (read cr bs) ≡ true
  text_read cr bs h = let t = text_characters bs h in ap (λ l. is_text (read cr l)) (sym t.bytes) ∙ characters_read cr t.spelled t.are_characters

chosen : {X : Type 0} (v w : Bool) (x y z : X) → v ≡ false → w ≡ false → cond v x (cond w y z) ≡ z
chosen true w x y z e f = absurd cc
chosen false true x y z e f = absurd cc
chosen false false x y z e f = refl

ends_high : (cr : Bool) (b : ℕ) (bs : List ℕ) → is_past b ≡ true → line_ends_behind cr (b ∷ bs) ≡ b ∷ line_ends_behind false bs
ends_high cr b bs h =
    chosen (b == 13) ((b == 10) && cr) (10 ∷ line_ends_behind true bs) (line_ends_behind false bs) (b ∷ line_ends_behind false bs) (grind (arith, nat_tests)) (grind (arith, nat_tests))

ends_low : (cr : Bool) (b : ℕ) (bs : List ℕ) → is_text (b ∷ []) ≡ true → Step line_ends_behind cr b bs
ends_low cr b bs t = by (b == 13) refl ((b == 10) && cr) refl
  where
    by : (v : Bool) → (b == 13) ≡ v → (w : Bool) → ((b == 10) && cr) ≡ w → Step line_ends_behind cr b bs
    by true e w f = kept 10 true refl (ap (λ x. cond x (10 ∷ line_ends_behind true bs) (cond ((b == 10) && cr) (line_ends_behind false bs) (b ∷ line_ends_behind false bs))) e)
    by false e true f =
        dropped false
        (ap (λ x. cond x (10 ∷ line_ends_behind true bs) (cond ((b == 10) && cr) (line_ends_behind false bs) (b ∷ line_ends_behind false bs))) e
        ∙ ap (λ x. cond x (line_ends_behind false bs) (b ∷ line_ends_behind false bs)) f)
    by false e false f =
        kept b false t (chosen (b == 13) ((b == 10) && cr) (10 ∷ line_ends_behind true bs) (line_ends_behind false bs) (b ∷ line_ends_behind false bs) e f)

-- a text with its line ends read
pub line_ends_text : (bs : List ℕ) → is_text bs ≡ true → is_text (line_ends bs) ≡ true
line_ends_text bs h = text_read line_ends_behind (λ cr. refl) ends_high ends_low false bs h

one_space : (v : Bool) (b : ℕ) → is_text (b ∷ []) ≡ true → is_text (cond v 32 b ∷ []) ≡ true
one_space true b t = refl
one_space false b t = t

spaced_high : (cr : Bool) (b : ℕ) (bs : List ℕ) → is_past b ≡ true → spaced_behind cr (b ∷ bs) ≡ b ∷ spaced_behind false bs
spaced_high cr b bs h =
    let same : cond (is_space b) 32 b ≡ b = grind (arith, nat_tests) in
    chosen (b == 13) ((b == 10) && cr) (32 ∷ spaced_behind true bs) (spaced_behind false bs) (cond (is_space b) 32 b ∷ spaced_behind false bs) (grind (arith, nat_tests)) (grind (arith, nat_tests))
    ∙ ap (λ x. x ∷ spaced_behind false bs) same

spaced_low : (cr : Bool) (b : ℕ) (bs : List ℕ) → is_text (b ∷ []) ≡ true → Step spaced_behind cr b bs
spaced_low cr b bs t = by (b == 13) refl ((b == 10) && cr) refl
  where
    by : (v : Bool) → (b == 13) ≡ v → (w : Bool) → ((b == 10) && cr) ≡ w → Step spaced_behind cr b bs
    by true e w f = kept 32 true refl (ap (λ x. cond x (32 ∷ spaced_behind true bs) (cond ((b == 10) && cr) (spaced_behind false bs) (cond (is_space b) 32 b ∷ spaced_behind false bs))) e)
    by false e true f =
        dropped false
        (ap (λ x. cond x (32 ∷ spaced_behind true bs) (cond ((b == 10) && cr) (spaced_behind false bs) (cond (is_space b) 32 b ∷ spaced_behind false bs))) e
        ∙ ap (λ x. cond x (spaced_behind false bs) (cond (is_space b) 32 b ∷ spaced_behind false bs)) f)
    by false e false f =
        kept (cond (is_space b) 32 b) false (one_space (is_space b) b t)
        (chosen (b == 13) ((b == 10) && cr) (32 ∷ spaced_behind true bs) (spaced_behind false bs) (cond (is_space b) 32 b ∷ spaced_behind false bs) e f)

-- a text with its white space read as spaces
pub spaced_text : (bs : List ℕ) → is_text bs ≡ true → is_text (spaced bs) ≡ true
spaced_text bs h = text_read spaced_behind (λ cr. refl) spaced_high spaced_low false bs h
