-- A tree that the engine read for what a reader wants is one that it takes.
use Rattle.std.proofs.Common.{◌≡◌, ℕ, ◌+◌, List, length, ap, sym, subst, ◌∙◌}
use Rattle.surface_tree.specs.declared.token.Token.{Token}
use Rattle.surface_grammar.specs.declared.fault.Hole.{Hole}
use Rattle.surface_grammar.specs.declared.part.Part.{Part}
use Rattle.surface_grammar.specs.declared.part.Part.TheVariants.{One}
use Rattle.surface_grammar.specs.Listings.{Listing}
use Rattle.grammar_engine.specs.declared.want.Want.{Want}
use Rattle.grammar_engine.specs.Reads.{Reads}
use Rattle.hole_reader.specs.declared.reader.Next.{Next}
use Rattle.hole_reader.specs.declared.reader.Next.TheVariants.{Open}
use Rattle.hole_reader.specs.declared.reader.Reader.{Reader}
use Rattle.hole_reader.specs.Holes.{form_of}
use Rattle.hole_reader.specs.Progress.{ReadsWant}
use Rattle.hole_reader.specs.Readers.{most, Hands, ReadsWith, Waits}

pub hands : (items : List Token) (s : Reader) (hole : Hole) (place depth : ℕ) (tree : Listing) (behind : ℕ) → Waits s hole place depth
    → ((room : ℕ) → room + depth ≡ most → Reads items (One (form_of hole)) place room tree behind) → behind ≡ place + length tree.leaves → Hands items s tree behind
hands items s hole place depth tree behind w reads ends want opened =
    let both : ◌≡◌ {A = Next} (Open w.want) (Open want) = sym w.opened ∙ opened in
    let same : w.want ≡ want = cc both in
    let here = reads w.want.room w.room in
    let there = subst (λ (i : ℕ). Reads items (One (form_of hole)) i w.want.room tree behind) (sym w.place_of_want) here in
    let moved : ReadsWant items w.want s.machine.at tree behind = record {
      reads = subst (λ (p : Part). Reads items p s.machine.at w.want.room tree behind) (sym w.form) there;
      ends = ends ∙ ap (λ (i : ℕ). i + length tree.leaves) (sym w.place_of_want);
    } in
    subst (λ (x : Want). ReadsWant items x s.machine.at tree behind) same moved

-- what a reader gives is read as the engine reads it
pub read_with : (items : List Token) (whole : Want) (handed : List Listing) (tree : Listing) (behind : ℕ) (p : Part) (at room : ℕ) → whole.part ≡ p → whole.tag ≡ at → whole.room ≡ room → ReadsWith items whole handed tree behind → Reads items p at room tree behind
read_with items whole handed tree behind p at room e1 e2 e3 d =
    let here : Reads items whole.part whole.tag whole.room tree behind = record { node = d.node; fits = d.fits; lists = d.lists; spells = d.spells } in
    subst (λ (q : Part). Reads items q at room tree behind) e1
    (subst (λ (i : ℕ). Reads items whole.part i room tree behind) e2
    (subst (λ (i : ℕ). Reads items whole.part whole.tag i tree behind) e3 here))
