-- What several writes in turn do to the bytes that are known of a sink.
use Rattle.std.proofs.Common.{◌≡◌, ℕ, ◌≤◌, ◌-◌, ◌∙◌, List, ◌++◌, length, take, drop, ap, sym, subst, Option, append_assoc, length-append, take-append-drop, arith}
use Rattle.std.proofs.KnownBytes.{Appends-kept, Appends-trans}
use Rattle.std.proofs.Math.Seq.{take-append_seam}
use Rattle.std.proofs.lemmas.List.{take_rest}
use Rattle.std.specs.Io.KnownBytes.{Appends, Keeps}
use Rattle.program_devices.specs.Device.{AppendsBeginning}

-- the sink took all of the text but the rest
pub record TookUpTo (text rest : List ℕ) (old new : Option (List ℕ)) : Type 0 where
  pub front : List ℕ
  pub split : text ≡ front ++ rest
  pub taken : Appends old new front

-- one more write takes n bytes of the rest
pub TookUpTo-more : (text rest : List ℕ) (n : ℕ) (a b c : Option (List ℕ)) → TookUpTo text rest a b → Appends b c (take n rest)
    → TookUpTo text (take (length rest - n) (drop n rest)) a c
TookUpTo-more text rest n a b c t more =
    let left : rest ≡ take n rest ++ take (length rest - n) (drop n rest) = sym (ap (λ l. take n rest ++ l) (take_rest rest n) ∙ take-append-drop n rest) in
    record {
      front = t.front ++ take n rest;
      split = t.split ∙ ap (λ l. t.front ++ l) left ∙ sym (append_assoc t.front (take n rest) (take (length rest - n) (drop n rest)));
      taken = Appends-trans a b c t.front (take n rest) t.taken more;
    }

-- a write that fails leaves a beginning of the text
pub TookUpTo-stops : (text rest : List ℕ) (a b c : Option (List ℕ)) → TookUpTo text rest a b → Keeps b c → AppendsBeginning a c text
TookUpTo-stops text rest a b c t kept =
    let short : length t.front ≤ length text = rw (t.split, length-append t.front rest) (omega arith) in
    let whole : take (length t.front) text ≡ t.front = ap (take (length t.front)) t.split ∙ take-append_seam t.front rest in
    (length t.front, short, subst (Appends a c) (sym whole) (Appends-kept a b c t.front t.taken kept))
