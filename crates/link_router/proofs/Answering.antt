-- What follows from an answer that reads the target or tells a refusal of it.
use Rattle.std.proofs.Common.{◌≡◌, ℕ, Bool, true, false, not, List, [], ◌∷◌, ◌++◌, Option, Some, None, Result, Ok, Err, IfOk, IfErr, IfSome, MatchResult, slice_get, refl, ap, sym, subst, ◌∙◌, ◌⊎◌, inl, inr}
use Rattle.std.specs.List.{Contains}
use Rattle.link_router.specs.Calls.{Ent, Rts, Cl, is_post}
use Rattle.link_router.specs.Links.{Route, path_of, path_pieces}
use Rattle.link_router.specs.Routed.{Astray, no_route, other_method, bad_piece, too_few, too_many, Fits, NoneFits, OneFits, Refuses, has_no_route, has_other_method, has_bad_piece, has_too_few, has_too_many}
use Rattle.link_router.specs.RouteLaws.{AreNamed, ReadAs}
use Rattle.link_router.specs.Answered.{FitsEntry, FoundEntry, NoEntryFound, IsCallAt, StraysAt, astray_of, IsRefusal, AnswersSo, AnswersCall}
use Rattle.link_router.specs.View.{call_view}
use Rattle.link_router.specs.declared.call.Call.{Call}
use Rattle.link_router.specs.declared.router.LinkFault.{LinkFault}
use Rattle.link_router.specs.declared.router.LinkFault.TheVariants.{NoRoute, OtherMethod, BadPiece, TooFewPieces, TooManyPieces, Memory}
use Rattle.link_router.proofs.Listed.{one_value}
use Rattle.link_router.proofs.OneCall.{route_read, read_route, one_call}
use Rattle.link_router.proofs.OneRefusal.{one_refusal, refused_or_read, listed_at}
use Rattle.link_router.proofs.Sent.{listed_in}

pub routed : (routes : Rts) (post : Bool) (target : List ℕ) (r : Result Call LinkFault) → AreNamed routes → IfOk r (λ call. ReadAs routes post target (call_view call)) → IfOk r (λ call. Route routes post target (call_view call))
routed routes post target (Ok call) n h = read_route routes post target (call_view call) n h
routed routes post target (Err fault) n h = tt

never_both : (routes : Rts) (post : Bool) (target : List ℕ) (o : Option Astray) (c : Cl) → AreNamed routes → IfSome o (λ why. Refuses routes post target why) → Route routes post target c → o ≡ None
never_both routes post target None c n h r = refl
never_both routes post target (Some why) c n h r = absurd (refused_or_read routes post target why c n h (route_read routes post target c n r))

pub each_routed : (routes : Rts) (post : Bool) (target : List ℕ) (r : Result Call LinkFault) → AreNamed routes → IfOk r (λ call. ReadAs routes post target (call_view call)) → IfErr r (λ fault. IsRefusal routes post target fault) → (c : Cl) → Route routes post target c → AnswersCall r c
each_routed routes post target (Ok call) n h k c r = one_call routes post target (call_view call) c n (read_route routes post target (call_view call) n h) r
each_routed routes post target (Err fault) n h k c r = never_both routes post target (astray_of fault) c n k r

told_so : (routes : Rts) (post : Bool) (target : List ℕ) (o : Option Astray) (why : Astray) → AreNamed routes → IfSome o (λ x. Refuses routes post target x) → Refuses routes post target why → (o ≡ None) ⊎ (o ≡ Some why)
told_so routes post target None why n h r = inl refl
told_so routes post target (Some x) why n h r = inr (ap (λ y. Some y) (one_refusal n h r))

pub each_refused : (routes : Rts) (post : Bool) (target : List ℕ) (r : Result Call LinkFault) → AreNamed routes → IfOk r (λ call. ReadAs routes post target (call_view call)) → IfErr r (λ fault. IsRefusal routes post target fault) → (why : Astray) → Refuses routes post target why → AnswersSo r why
each_refused routes post target (Ok call) n h k why r = refused_or_read routes post target why (call_view call) n r h
each_refused routes post target (Err fault) n h k why r = told_so routes post target (astray_of fault) why n k r

-- a path without pieces has no route
pub nothing_fits : (routes : Rts) (post : Bool) (target : List ℕ) → path_pieces (path_of target) ≡ None → NoneFits routes post target
nothing_fits routes post target e d rest i m f = cc

pub no_pieces_refused : (routes : Rts) (post : Bool) (target : List ℕ) → path_pieces (path_of target) ≡ None → Refuses routes post target no_route
no_pieces_refused routes post target e = has_no_route (nothing_fits routes post target e) (nothing_fits routes (not post) target e)

-- no entry was found among all
pub none_fits : (routes : Rts) (post : Bool) (target : List ℕ) (pieces : List (List ℕ)) → path_pieces (path_of target) ≡ Some pieces → NoEntryFound routes post pieces → NoneFits routes post target
none_fits routes post target pieces e f d rest i m h =
    f i.0 d rest (record { there = listed_at routes.entries d i; fits = record { by_method = m; begins = one_value e h } })

pub one_fits : (routes : Rts) (post : Bool) (target : List ℕ) (pieces : List (List ℕ)) (i : ℕ) (d : Ent) (rest : List (List ℕ)) → path_pieces (path_of target) ≡ Some pieces → FoundEntry routes post pieces i d rest → OneFits routes post target d rest
one_fits routes post target pieces i d rest e f = record {
  one_of_them = listed_in routes.entries i d f.there;
  by_method = f.fits.by_method;
  named = e ∙ ap (λ ps. Some ps) f.fits.begins;
}

pub other_refused : (routes : Rts) (post : Bool) (target : List ℕ) (pieces : List (List ℕ)) (i : ℕ) (d : Ent) (rest : List (List ℕ)) → path_pieces (path_of target) ≡ Some pieces → NoEntryFound routes post pieces → FoundEntry routes (not post) pieces i d rest → Refuses routes post target other_method
other_refused routes post target pieces i d rest e n f = has_other_method (none_fits routes post target pieces e n) (one_fits routes (not post) target pieces i d rest e f)

pub none_refused : (routes : Rts) (post : Bool) (target : List ℕ) (pieces : List (List ℕ)) → path_pieces (path_of target) ≡ Some pieces → NoEntryFound routes post pieces → NoEntryFound routes (not post) pieces → Refuses routes post target no_route
none_refused routes post target pieces e n m = has_no_route (none_fits routes post target pieces e n) (none_fits routes (not post) target pieces e m)

-- the call of the entry that was found
pub read_at : (routes : Rts) (post : Bool) (target : List ℕ) (pieces : List (List ℕ)) (i : ℕ) (d : Ent) (rest : List (List ℕ)) (r : Result Call LinkFault) → path_pieces (path_of target) ≡ Some pieces → FoundEntry routes post pieces i d rest → IfOk r (λ call. IsCallAt routes.datatypes i d rest (call_view call)) → IfOk r (λ call. ReadAs routes post target (call_view call))
read_at routes post target pieces i d rest (Ok call) e f h = record {
  entry = d;
  is_entry = ap (λ k. slice_get routes.entries k) h.entry ∙ f.there;
  by_method = f.fits.by_method;
  left = rest;
  named = e ∙ ap (λ ps. Some ps) f.fits.begins;
  arguments = h.arguments;
  no_form = h.no_form;
  no_cookie = h.no_cookie;
}
read_at routes post target pieces i d rest (Err fault) e f h = tt

strays_at : (routes : Rts) (post : Bool) (target : List ℕ) (d : Ent) (rest : List (List ℕ)) (fault : LinkFault) → OneFits routes post target d rest → StraysAt routes.datatypes d rest fault → IsRefusal routes post target fault
strays_at routes post target d rest NoRoute o h = absurd h
strays_at routes post target d rest OtherMethod o h = absurd h
strays_at routes post target d rest (BadPiece i) o h = subst (λ k. Refuses routes post target (bad_piece k)) (sym h.2) (has_bad_piece o h.1)
strays_at routes post target d rest TooFewPieces o h = has_too_few o h
strays_at routes post target d rest TooManyPieces o h = has_too_many o h.3
strays_at routes post target d rest Memory o h = tt

pub refused_at : (routes : Rts) (post : Bool) (target : List ℕ) (pieces : List (List ℕ)) (i : ℕ) (d : Ent) (rest : List (List ℕ)) (r : Result Call LinkFault) → path_pieces (path_of target) ≡ Some pieces → FoundEntry routes post pieces i d rest → IfErr r (λ fault. StraysAt routes.datatypes d rest fault) → IfErr r (λ fault. IsRefusal routes post target fault)
refused_at routes post target pieces i d rest (Ok call) e f h = tt
refused_at routes post target pieces i d rest (Err fault) e f h = strays_at routes post target d rest fault (one_fits routes post target pieces i d rest e f) h
