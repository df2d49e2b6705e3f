-- A byte more of a line, where there is room and where there is none. Assumes nothing.
use Rattle.std.specs.Prelude.{Result, Ok, Err, OnOk, OnErr, IsOk, ◌↔◌}
use Rattle.std.proofs.Common.{◌≡◌, ℕ, ◌<◌, List, [], ◌∷◌, ◌++◌, length, refl, sym, ap, ◌∙◌, arith, length-append, take_all}
use Rattle.std.proofs.lemmas.List.{take-append-le}
use Rattle.line_input.specs.Lines.{kept_of}

module _ {V A E : Type 0} (items : V → List ℕ) (old new : V) (b : ℕ) where
  pub one_more : (r : Result A E)
      → (IsOk r ↔ (length (items old) < 257)) → OnOk r (items new ≡ items old ++ (b ∷ [])) → OnErr r (new ≡ old) → OnErr r (length (items old) ≡ 257)
      → items new ≡ kept_of (items old ++ (b ∷ []))
  one_more (Ok x) room ok err full =
      let l = items old in
      ok ∙ sym (take_all 257 (l ++ (b ∷ [])) (omega (arith, length-append l (b ∷ []), room.0 refl)))
  one_more (Err x) room ok err full =
      let l = items old in
      ap items err ∙ sym (take-append-le 257 l (b ∷ []) (omega arith) ∙ take_all 257 l (omega arith))
