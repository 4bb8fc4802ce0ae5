-- A text that is written in runs of bytes that are written as they are.
use Rattle.std.proofs.Common.{◌≡◌, ℕ, suc, Option, Result, ◌+◌, ◌-◌, ◌<◌, ◌≤◌, List, [], ◌∷◌, ◌++◌, length, get_or, take, drop, sym, ap, ◌∙◌, subst, append_assoc, append-nil, arith, take-append-drop, length-drop}
use Rattle.std.specs.List.{flat_map}
use Rattle.std.proofs.lemmas.Grind.{common_steps, flat_map-append}
use Rattle.std.proofs.Math.Seq.{take-suc}
use Rattle.pn_outside.specs.Taking.{Takes, TakesFront, Puts}
use Rattle.pn_outside.proofs.TakingLemmas.{flat_map_next, takes_both, front_then, front_more, puts_then}

-- the bytes from one place to another
abbrev pub run : ℕ → ℕ → List ℕ → List ℕ
run start at bytes = take (at - start) (drop start bytes)

-- the bytes before `at` are written as those before `start`, and a run as it stands
abbrev pub IsRun : (ℕ → List ℕ) → List ℕ → ℕ → ℕ → Type 0
IsRun escape bytes start at = flat_map escape (take at bytes) ≡ flat_map escape (take start bytes) ++ run start at bytes

pub run_none : (escape : ℕ → List ℕ) (bytes : List ℕ) (at : ℕ) → IsRun escape bytes at at
run_none escape bytes at =
    let none : run at at bytes ≡ [] = grind (arith, common_steps) in
    sym (append-nil (flat_map escape (take at bytes))) ∙ ap (λ l. flat_map escape (take at bytes) ++ l) (sym none)

run_next : (bytes : List ℕ) (start at : ℕ) → start ≤ at → at < length bytes → run start (at + 1) bytes ≡ run start at bytes ++ (get_or bytes at 0 ∷ [])
run_next bytes start at le lt =
    let one : at + 1 - start ≡ suc (at - start) = omega arith in
    let there : get_or (drop start bytes) (at - start) 0 ≡ get_or bytes at 0 = grind (arith, common_steps) in
    ap (λ n. take n (drop start bytes)) one ∙ take-suc (drop start bytes) (at - start) 0 (omega (arith, length-drop start bytes))
    ∙ ap (λ x. take (at - start) (drop start bytes) ++ (x ∷ [])) there

-- one more byte with its reference
pub escaped_next : (escape : ℕ → List ℕ) (bytes : List ℕ) (start at : ℕ) → at < length bytes → IsRun escape bytes start at
    → flat_map escape (take (at + 1) bytes) ≡ flat_map escape (take start bytes) ++ (run start at bytes ++ escape (get_or bytes at 0))
escaped_next escape bytes start at lt is =
    flat_map_next escape bytes at 0 lt ∙ ap (λ l. l ++ escape (get_or bytes at 0)) is
    ∙ append_assoc (flat_map escape (take start bytes)) (run start at bytes) (escape (get_or bytes at 0))

-- one more byte that is written as it is
pub run_more : (escape : ℕ → List ℕ) (bytes : List ℕ) (start at : ℕ) → start ≤ at → at < length bytes → escape (get_or bytes at 0) ≡ get_or bytes at 0 ∷ []
    → IsRun escape bytes start at → IsRun escape bytes start (at + 1)
run_more escape bytes start at le lt same is =
    escaped_next escape bytes start at lt is
    ∙ ap (λ l. flat_map escape (take start bytes) ++ l) (ap (λ l. run start at bytes ++ l) same ∙ sym (run_next bytes start at le lt))

-- the text of the first bytes, and of the rest
pub escaped_split : (escape : ℕ → List ℕ) (bytes : List ℕ) (n : ℕ) → flat_map escape bytes ≡ flat_map escape (take n bytes) ++ flat_map escape (drop n bytes)
escaped_split escape bytes n = ap (flat_map escape) (sym (take-append-drop n bytes)) ∙ flat_map-append escape (take n bytes) (drop n bytes)

module _ {S : Type 0} {taken : S → Option (List ℕ)} {number : S → Option ℕ} where
  -- after a run and the reference behind it
  pub took_run : (a b c : S) (escape : ℕ → List ℕ) (bytes reference : List ℕ) (start at : ℕ) → at < length bytes → IsRun escape bytes start at
      → escape (get_or bytes at 0) ≡ reference → Takes taken number a b (flat_map escape (take start bytes)) → Takes taken number b c (run start at bytes ++ reference)
      → Takes taken number a c (flat_map escape (take (at + 1) bytes))
  took_run a b c escape bytes reference start at lt is same p q =
      let next : flat_map escape (take (at + 1) bytes) ≡ flat_map escape (take start bytes) ++ (run start at bytes ++ reference) =
      escaped_next escape bytes start at lt is ∙ ap (λ l. flat_map escape (take start bytes) ++ (run start at bytes ++ l)) same in
      subst (Takes taken number a c) (sym next) (takes_both a b c (flat_map escape (take start bytes)) (run start at bytes ++ reference) p q)

  -- a run and the reference behind it did not all go out
  pub run_failed : (a b c : S) (escape : ℕ → List ℕ) (bytes text reference : List ℕ) (start at : ℕ) → at < length bytes → bytes ≡ text → IsRun escape bytes start at
      → escape (get_or bytes at 0) ≡ reference → Takes taken number a b (flat_map escape (take start bytes)) → TakesFront taken number b c (run start at bytes ++ reference)
      → TakesFront taken number a c (flat_map escape text)
  run_failed a b c escape bytes text reference start at lt whole is same p q =
      let next : flat_map escape (take (at + 1) bytes) ≡ flat_map escape (take start bytes) ++ (run start at bytes ++ reference) =
      escaped_next escape bytes start at lt is ∙ ap (λ l. flat_map escape (take start bytes) ++ (run start at bytes ++ l)) same in
      let front = subst (TakesFront taken number a c) (sym next) (front_then a b c (flat_map escape (take start bytes)) (run start at bytes ++ reference) p q) in
      let all : flat_map escape (take (at + 1) bytes) ++ flat_map escape (drop (at + 1) bytes) ≡ flat_map escape text =
      sym (escaped_split escape bytes (at + 1)) ∙ ap (flat_map escape) whole in
      subst (TakesFront taken number a c) all (front_more a c (flat_map escape (take (at + 1) bytes)) (flat_map escape (drop (at + 1) bytes)) front)

  -- the last run
  pub took_rest : {E : Type 0} (a b c : S) (escape : ℕ → List ℕ) (bytes text : List ℕ) (start at : ℕ) (r : Result (Unit {0}) E) → at ≡ length bytes → bytes ≡ text
      → IsRun escape bytes start at → Takes taken number a b (flat_map escape (take start bytes)) → Puts taken number r b c (run start (length bytes) bytes)
      → Puts taken number r a c (flat_map escape text)
  took_rest a b c escape bytes text start at r end whole is p q =
      let all : take at bytes ≡ bytes = grind (arith, common_steps) in
      let is_all : flat_map escape (take start bytes) ++ run start (length bytes) bytes ≡ flat_map escape text =
      ap (λ n. flat_map escape (take start bytes) ++ run start n bytes) (sym end) ∙ sym is ∙ ap (flat_map escape) all ∙ ap (flat_map escape) whole in
      subst (Puts taken number r a c) is_all (puts_then a b c (flat_map escape (take start bytes)) (run start (length bytes) bytes) r p q)
