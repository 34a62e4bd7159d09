-- `empty` puts the two fields together, and owns nothing.
use Rattle.std.proofs.Common.{List, [], ◌∷◌, ◌++◌, None, refl, sym, subst}
use mir.Val.{Val, has_ty}
use base.Logic.{SProp, ent, emp, id⊢}
use prog.Wp.{WpFn}
use types.Kit.{‵, raw, ◌⊛◌, ◌$◌, ◌∵◌, !, qed, move, drop, split, join, fsplit3, fjoin, use1, suffices, rewrite, done}
use types.Run.{no_more, and_then, returns, enter}
use types.ByLocal.{alloc_all, pass_all, free_all, look_at, get, sets}
use types.Part.{agg}
use contract.Running.{tables}
use denote.Builtin.{RawPtr}
use denote.Exit.{yes}
use denote.RattleType.{RattleType, owns}
use denote.RawPtr.{rawptr_Lawful}
use denote.Signature.{types_at, type_at, plain}
use denote.Steps.{nothing}
use denote.Param.{layout}
use denote.Triple.Entry.{alive}
use denote.Triple.Walked.{says, Stays, stay_dropped, walk_of, ends_at, Goes-dropped}
use Rattle.core.proofs.cell.Inside.{Good, one}
use Rattle.std.proofs.raw_atomic.Walks.{proved_at}
use Rattle.std_heap.specs.contracts.Global as heap
use Rattle.std_heap.proofs.Global.TheLaws as heap_laws
use Rattle.box_parts.proofs.Fields.{both, both_tt, two_in}
use Rattle.gopat_session_c.specs.contracts.slot.Slot.empty.{ended, clauses}
use Rattle.gopat_session_c.specs.contracts.slot.Slot.empty.Key.{name as #self}
use Rattle.gopat_session_c.proofs.slot.Slot.empty.Statement.{statement}
use Rattle.gopat_session_c.proofs.slot.Slot.empty.Code as code

pub empty_spec : {M : Type 1} → statement M
empty_spec 𝓤 𝓛 𝓜 𝓡 wired =
    let H = 𝓛.H in let 𝓣 = tables 𝓤 H 𝓜 𝓡 𝓡.env in let En = ended in let c = clauses 𝓛 𝓜.mem 𝓡.returns in
    let fn = code.function in let Z : RattleType = heap.the_row in let LZ = heap_laws.the_row_laws in
    let hs : Stays En.signature.params En.kept = (
      stay_dropped (plain (λ _. RawPtr)) yes,
      (
        stay_dropped (plain
            (λ _. Z)) yes,
        tt,
      ),
    ) in
    proved_at 𝓛 En hs c 𝓜 𝓡 (
      Goes-dropped 𝓛 0 (plain (λ _. RawPtr)) yes (λ κs x f. refl),
      (
        Goes-dropped 𝓛 0 (plain
            (λ _. Z)) yes (λ κs x f. refl),
        tt,
      ),
    ) #self fn (code.unfolded 𝓤 H 𝓜 𝓡 wired) (λ z are.
    let κs = z.0.0 in let qs = z.0.1 in let Post : Val → SProp 𝓤 = (walk_of 𝓛 En hs c).post z in
    let Run : List Val → SProp 𝓤 = λ ws. WpFn 𝓤 H 𝓣.C 𝓣.Λ fn ws Post in
    let Out : RattleType = type_at En.signature.result κs in
    let x = z.0.3.0 in let a = z.0.3.1.0 in
    let v = one (layout RawPtr) z.0.4.0 ((rawptr_Lawful 𝓛).typed x z.0.4.0 are.0) in
    let h = one (layout Z) z.0.4.1.0 ((LZ.lawful 𝓛).typed a z.0.4.1.0 are.1.0) in let w : Val = both v.0 h.0 in
    let good : Good (layout Out) w = (
      both_tt (has_ty (layout RawPtr) v.0) (has_ty (layout Z) h.0) v.2.0 h.2.0,
      (v.2.1, (h.2.1, tt)),
    ) in
    let made : Out.Denot = record { at = x; alloc = a; held = None } in
    qed 𝓛 ((raw (alive 𝓛 En.signature κs qs) ⊛
    ‵ (owns (types_at En.signature.params κs) z.0.3 z.0.4)) ∷ raw (emp 𝓤) ∷ []) ∵
    split ! $ drop ! $ fsplit3 ! $
    rewrite ! 0 (λ (us : List Val). ‵ (RawPtr.own_val x us)) v.1 refl $
    rewrite ! 1 (λ (us : List Val). ‵ (Z.own_val a us)) h.1 refl $
    two_in RawPtr Z x a ! v.0 h.0 $ move ! (1 ∷ 2 ∷ []) $ drop ! $ drop ! $
    nothing ! $ move ! (1 ∷ 0 ∷ []) $ fjoin ! $ use1 𝓛 (‵ (Out.own_val made (w ∷ []))) (id⊢ 𝓤 _) $
    suffices ! (Run (v.0 ∷ h.0 ∷ [])) (subst (λ (us : List Val). ent 𝓤 (Run (v.0 ∷ h.0 ∷
    [])) (Run us)) (sym (λ i. v.1 i ++ (h.1 i ++ []))) (id⊢ 𝓤 (Run (v.0 ∷ h.0 ∷ [])))) $
    enter ! 𝓣.C 𝓣.Λ fn (v.0 ∷ h.0 ∷ []) Post $ alloc_all ! (λ l. pass_all ! refl (v.2, (h.2, tt)) $
    sets ! (agg ! (and_then ! (get ! refl) (and_then ! (get ! refl) (no_more !)))) refl good $
    returns ! (look_at ! 0 refl) $ free_all ! refl $
    suffices ! _ (ends_at 𝓛 En hs c z w made (tt, (tt, tt)) (tt, (tt, tt))) $ says ! refl $
    nothing ! $ nothing ! $ fjoin ! $ nothing ! $ fjoin ! $ join ! $ nothing ! $ join ! $ done !))
