-- Which words an answer to a revoker's command has, and that just these are read as it.
use Rattle.std.proofs.Common.{◌≡◌, ℕ, ◌^◌, Bool, true, false, cond, codes, List, [], ◌∷◌, Option, Some, None, IfSome, bytes_eq, refl, sym, ap, subst, ◌∙◌, arith}
use Rattle.std.specs.Fmt.{decimal}
use Rattle.std.specs.Option.{option_map}
use Rattle.std.specs.Prelude.{option_and_then}
use Rattle.trace_text.specs.Lines.{words_of}
use Rattle.trace_text.specs.Reading.{no_word_in, one_word_in}
use Rattle.revoker_steps.specs.declared.command.RevokerReply.{RevokerReply}
use Rattle.revoker_steps.specs.declared.command.RevokerReply.TheVariants.{Cleared, Done, Released}
use Rattle.revoker_steps.specs.declared.command.RevokerReply.TheVariants as reply
use Rattle.revoker_steps.specs.declared.command.RevokerTrap.{RevokerTrap}
use Rattle.revoker_steps.specs.declared.command.RevokerTrap.TheVariants as trap
use Rattle.revoker_steps.specs.RevokerText.{revoker_trap_name, text_of_revoker_reply}
use Rattle.log_text.specs.ReplyText.{decimal_in}
use Rattle.log_text.specs.RevokerLines.{FitsRevokerReply, IsRevokerReplyText, revoker_reply_in, revoker_trap_in}
use Rattle.log_text.proofs.Numerals.{same_bytes}
use Rattle.log_text.proofs.ReplyWords.{after, decimal_is, decimal_last, decimal_read, one_read}

abbrev revoker_words : RevokerReply → List (List ℕ)
revoker_words Done = codes "ok" ∷ []
revoker_words (Cleared cleared) = codes "cleared" ∷ decimal cleared ∷ []
revoker_words (Released bytes) = codes "released" ∷ decimal bytes ∷ []
revoker_words (reply.Trap t) = codes "trap" ∷ revoker_trap_name t ∷ []

revoker_words-are : (answer : RevokerReply) → FitsRevokerReply answer → words_of (text_of_revoker_reply answer) ≡ revoker_words answer
revoker_words-are Done fits = refl
revoker_words-are (Cleared cleared) fits = ap (after (codes "cleared")) (decimal_last cleared (omega (arith, fits)))
revoker_words-are (Released bytes) fits = ap (after (codes "released")) (decimal_last bytes (omega (arith, fits)))
revoker_words-are (reply.Trap t) fits = trap_words t where
  trap_words : (t : RevokerTrap) → words_of (text_of_revoker_reply (reply.Trap t)) ≡ codes "trap" ∷ revoker_trap_name t ∷ []
  trap_words trap.Open = refl
  trap_words trap.NotOpen = refl
  trap_words trap.Bounds = refl
  trap_words trap.Align = refl
  trap_words trap.Left = refl

-- ---- from an answer to its words and back

trap_is : (t : RevokerTrap) → revoker_trap_in (revoker_trap_name t) ≡ Some t
unfolding revoker_trap_in
trap_is trap.Open = refl
trap_is trap.NotOpen = refl
trap_is trap.Bounds = refl
trap_is trap.Align = refl
trap_is trap.Left = refl

reply_is : (answer : RevokerReply) → FitsRevokerReply answer → revoker_reply_in (revoker_words answer) ≡ Some answer
unfolding revoker_reply_in
reply_is Done fits = refl
reply_is (Cleared cleared) fits = ap (option_map Cleared) (decimal_is (2 ^ 32) cleared fits (omega arith))
reply_is (Released bytes) fits = ap (option_map Released) (decimal_is (2 ^ 64) bytes fits (omega arith))
reply_is (reply.Trap t) fits = ap (option_map reply.Trap) (trap_is t)

-- what was read of these words, if anything was, is an answer that has them
abbrev Tells : List (List ℕ) → Option RevokerReply → Type 0
Tells words found = IfSome found (λ answer. FitsRevokerReply answer × (words ≡ revoker_words answer))

done_tells : (words : List (List ℕ)) → Tells (codes "ok" ∷ words) (cond (no_word_in words) (Some Done) None)
done_tells [] = (tt, refl)
done_tells (word ∷ words) = tt

cleared_tells : (words : List (List ℕ)) → Tells (codes "cleared" ∷ words) (option_map Cleared (option_and_then (decimal_in (2 ^ 32)) (one_word_in words)))
cleared_tells words = go (option_and_then (decimal_in (2 ^ 32)) (one_word_in words)) refl where
  go : (found : Option ℕ) → option_and_then (decimal_in (2 ^ 32)) (one_word_in words) ≡ found → Tells (codes "cleared" ∷ words) (option_map Cleared found)
  go None is = tt
  go (Some cleared) is =
      let one = one_read (decimal_in (2 ^ 32)) words cleared is in
      let number = decimal_read (2 ^ 32) cleared one.0 one.2 in
      (number.0, ap (after (codes "cleared")) (one.1 ∙ ap (λ word. word ∷ []) number.1))

released_tells : (words : List (List ℕ)) → Tells (codes "released" ∷ words) (option_map Released (option_and_then (decimal_in (2 ^ 64)) (one_word_in words)))
released_tells words = go (option_and_then (decimal_in (2 ^ 64)) (one_word_in words)) refl where
  go : (found : Option ℕ) → option_and_then (decimal_in (2 ^ 64)) (one_word_in words) ≡ found → Tells (codes "released" ∷ words) (option_map Released found)
  go None is = tt
  go (Some bytes) is =
      let one = one_read (decimal_in (2 ^ 64)) words bytes is in
      let number = decimal_read (2 ^ 64) bytes one.0 one.2 in
      (number.0, ap (after (codes "released")) (one.1 ∙ ap (λ word. word ∷ []) number.1))

-- the name of a trap that was read, if one was
abbrev Names : List ℕ → Option RevokerTrap → Type 0
Names name found = IfSome found (λ t. name ≡ revoker_trap_name t)

trap_named : (word name : List ℕ) (t : RevokerTrap) (other : Option RevokerTrap) → word ≡ revoker_trap_name t → Names name other → Names name (cond (bytes_eq name word) (Some t) other)
trap_named word name t other is if_other = go (bytes_eq name word) refl where
  go : (same : Bool) → bytes_eq name word ≡ same → Names name (cond same (Some t) other)
  go true same = same_bytes name word same ∙ is
  go false same = if_other

trap_names : (name : List ℕ) → Names name (revoker_trap_in name)
unfolding revoker_trap_in
trap_names name =
    trap_named (codes "open") name trap.Open _ refl (trap_named (codes "notopen") name trap.NotOpen _ refl (trap_named (codes "bounds") name trap.Bounds _ refl
    (trap_named (codes "align") name trap.Align _ refl (trap_named (codes "left") name trap.Left None refl tt))))

trap_tells : (words : List (List ℕ)) → Tells (codes "trap" ∷ words) (option_map reply.Trap (option_and_then revoker_trap_in (one_word_in words)))
trap_tells [] = tt
trap_tells (name ∷ []) = go (revoker_trap_in name) (trap_names name) where
  go : (found : Option RevokerTrap) → Names name found → Tells (codes "trap" ∷ name ∷ []) (option_map reply.Trap found)
  go None is = tt
  go (Some t) is = (tt, ap (λ word. codes "trap" ∷ word ∷ []) is)
trap_tells (name ∷ other ∷ words) = tt

-- a name that is this word or another
named : (word name : List ℕ) (words : List (List ℕ)) (this other : Option RevokerReply) → Tells (word ∷ words) this → Tells (name ∷ words) other → Tells (name ∷ words) (cond (bytes_eq name word) this other)
named word name words this other if_this if_other = go (bytes_eq name word) refl where
  go : (t : Bool) → bytes_eq name word ≡ t → Tells (name ∷ words) (cond t this other)
  go true is = subst (λ w. Tells (w ∷ words) this) (sym (same_bytes name word is)) if_this
  go false is = if_other

reply_tells : (words : List (List ℕ)) → Tells words (revoker_reply_in words)
unfolding revoker_reply_in
reply_tells [] = tt
reply_tells (name ∷ words) =
    named (codes "ok") name words _ _ (done_tells words) (named (codes "cleared") name words _ _ (cleared_tells words)
    (named (codes "released") name words _ _ (released_tells words) (named (codes "trap") name words _ None (trap_tells words) tt)))

pub IsRevokerReplyText-read : (words : List (List ℕ)) (answer : RevokerReply) → revoker_reply_in words ≡ Some answer → IsRevokerReplyText words answer
IsRevokerReplyText-read words answer e =
    let told : FitsRevokerReply answer × (words ≡ revoker_words answer) = subst (Tells words) e (reply_tells words) in
    (told.0, told.1 ∙ sym (revoker_words-are answer told.0))

pub revoker_reply_in-IsRevokerReplyText : (words : List (List ℕ)) (answer : RevokerReply) → IsRevokerReplyText words answer → revoker_reply_in words ≡ Some answer
revoker_reply_in-IsRevokerReplyText words answer is = ap revoker_reply_in (is.1 ∙ revoker_words-are answer is.0) ∙ reply_is answer is.0

pub one_revoker_answer : (words : List (List ℕ)) (answer other : RevokerReply) → IsRevokerReplyText words answer → IsRevokerReplyText words other → answer ≡ other
one_revoker_answer words answer other is is_other =
    let first = revoker_reply_in-IsRevokerReplyText words answer is in
    let second = revoker_reply_in-IsRevokerReplyText words other is_other in
    cc
