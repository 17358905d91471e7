-- Lists of a revoker's steps that grow at their end.
use Rattle.std.proofs.Common.{◌≡◌, ◌∙◌, ◌+◌, ◌++◌, ◌⊎◌, ℕ, inl, inr, List, [], ◌∷◌, refl, sym, ap, subst, arith}
use Rattle.std.proofs.lemmas.List.{append-nil, append_assoc}
use Rattle.trace_text.specs.declared.trace.Command.{Command}
use Rattle.heap_reply.specs.declared.reply.Reply.{Reply}
use Rattle.machine_steps.specs.Follow.{Follows}
use Rattle.machine_steps.specs.State.{State}
use Rattle.machine_steps.specs.Step.{Step}
use Rattle.revoker_steps.specs.declared.command.RevokerCommand.TheVariants.{UntagRegister, Visit}
use Rattle.revoker_steps.specs.declared.command.RevokerReply.{RevokerReply}
use Rattle.revoker_steps.specs.Events.{Event, IsAmong, Runs, cleared_by, cleared_in, register_untags, visits}
use Rattle.revoker_steps.specs.Events.IsAmong.{first, later}
use Rattle.revoker_steps.specs.Revoker.{RevokerStep}
use Rattle.revokers.specs.Acts.{untag_act, untag_acts, visit_acts}
use Rattle.revokers.specs.declared.acts.Act.{Act}

-- ---- what runs

pub Runs-append : (By : State → Command → Reply → State → Type 0) (old mid new : State) (events others : List Event) → Runs By old events mid → Runs By mid others new → Runs By old (events ++ others) new
Runs-append By old mid new [] others run rest = subst (λ (s : State). Runs By s others new) run rest
Runs-append By old mid new (event ∷ events) others run rest = (run.0, run.1, Runs-append By run.0 mid new events others run.2 rest)

pub visits-push : (old mid new : State) (pages : List (ℕ × RevokerReply)) (page : ℕ) (reply : RevokerReply) → Runs Step old (visits pages) mid → RevokerStep mid (Visit page) reply new
    → Runs Step old (visits (pages ++ (page, reply) ∷ [])) new
visits-push old mid new [] page reply run step = (new, subst (λ (s : State). RevokerStep s (Visit page) reply new) run step, refl)
visits-push old mid new (it ∷ pages) page reply run step = (run.0, run.1, visits-push run.0 mid new pages page reply run.2 step)

pub untags-push : (old mid new : State) (registers : List (ℕ × RevokerReply)) (r : ℕ) (reply : RevokerReply) → Runs Step old (register_untags registers) mid → RevokerStep mid (UntagRegister r) reply new
    → Runs Step old (register_untags (registers ++ (r, reply) ∷ [])) new
untags-push old mid new [] r reply run step = (new, subst (λ (s : State). RevokerStep s (UntagRegister r) reply new) run step, refl)
untags-push old mid new (it ∷ registers) r reply run step = (run.0, run.1, untags-push run.0 mid new registers r reply run.2 step)

-- A revoker's steps are the same whoever places blocks.
pub untags-follow : (old new : State) (registers : List (ℕ × RevokerReply)) → Runs Step old (register_untags registers) new → Runs Follows old (register_untags registers) new
untags-follow old new [] run = run
untags-follow old new (it ∷ registers) run = (run.0, run.1, untags-follow run.0 new registers run.2)

-- ---- what is told

pub visit_acts-push : (pages : List (ℕ × RevokerReply)) (page : ℕ) (reply : RevokerReply) → visit_acts (pages ++ (page, reply) ∷ []) ≡ visit_acts pages ++ record { command = Visit page; reply = reply } ∷ []
visit_acts-push [] page reply = refl
visit_acts-push (it ∷ pages) page reply = ap (λ (acts : List Act). record { command = Visit it.0; reply = it.1 } ∷ acts) (visit_acts-push pages page reply)

pub untag_acts-push : (registers : List (ℕ × RevokerReply)) (r : ℕ) (reply : RevokerReply) → untag_acts (registers ++ (r, reply) ∷ []) ≡ untag_acts registers ++ untag_act r reply
untag_acts-push [] r reply = append-nil (untag_act r reply)
untag_acts-push (it ∷ registers) r reply =
    ap (λ (acts : List Act). untag_act it.0 it.1 ++ acts) (untag_acts-push registers r reply) ∙ sym (append_assoc (untag_act it.0 it.1) (untag_acts registers) (untag_act r reply))

-- Some more are told behind the others.
pub told-push : (before now after told more acts : List Act) → now ≡ before ++ told → after ≡ now ++ acts → more ≡ told ++ acts → after ≡ before ++ more
told-push before now after told more acts was is grown =
    is ∙ ap (λ (them : List Act). them ++ acts) was ∙ append_assoc before told acts ∙ ap (λ (them : List Act). before ++ them) (sym grown)

-- ---- which there are

pub cleared-push : (them : List (ℕ × RevokerReply)) (it : ℕ × RevokerReply) → cleared_in (them ++ it ∷ []) ≡ cleared_in them + cleared_by it.1
cleared-push [] it = omega arith
cleared-push (other ∷ them) it = omega (arith, cleared-push them it)

pub Among-still : (them : List (ℕ × RevokerReply)) (it : ℕ × RevokerReply) (n : ℕ) → IsAmong them n → IsAmong (them ++ it ∷ []) n
Among-still [] it n among = elim among [ ]
Among-still (other ∷ them) it n (first _ _ _ same) = first other (them ++ it ∷ []) n same
Among-still (other ∷ them) it n (later _ _ _ among) = later other (them ++ it ∷ []) n (Among-still them it n among)

pub Among-last : (them : List (ℕ × RevokerReply)) (it : ℕ × RevokerReply) → IsAmong (them ++ it ∷ []) it.0
Among-last [] it = first it [] it.0 refl
Among-last (other ∷ them) it = later other (them ++ it ∷ []) it.0 (Among-last them it)

pub Among-which : (them : List (ℕ × RevokerReply)) (it : ℕ × RevokerReply) (n : ℕ) → IsAmong (them ++ it ∷ []) n → IsAmong them n ⊎ (it.0 ≡ n)
Among-which [] it n (first _ _ _ same) = inr same
Among-which [] it n (later _ _ _ among) = elim among [ ]
Among-which (other ∷ them) it n (first _ _ _ same) = inl (first other them n same)
Among-which (other ∷ them) it n (later _ _ _ among) = elim (Among-which them it n among) [
  | inl before ↦ inl (later other them n before)
  | inr same ↦ inr same
]
