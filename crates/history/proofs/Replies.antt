-- What a reply's characters show, its acknowledgement and its text, and what a poll leaves held, outstanding and due.
use Rattle.std.proofs.Common.{◌≡◌, ℕ, zero, suc, ◌+◌, ◌%◌, Bool, true, false, cond, not, ◌&&◌, List, [], ◌∷◌, ◌++◌, map, replicate, Some, None, Option, refl, mod-eq_of_lt, arith}
use Rattle.std.specs.List.{AllByRecursion}
use Rattle.std.proofs.lemmas.List.{append_assoc, map-append}
use Rattle.std.proofs.lemmas.Bool.{ne_eqb, cond_both, false≢true}
use Rattle.codes.specs.Ascii.{SOH, STX, ETX, EOT, DLE, SYN}
use Rattle.line.specs.Kind.{Kind, GivesBack}
use Rattle.message.specs.Forms.{poll, poll_acknowledge}
use Rattle.transmission.specs.Laws.{Plain}
use Rattle.std.specs.Prelude.{is_some}
use Rattle.reply.specs.Octets.{lead, octets, checked, no_traffic, no_traffic_octets}
use Rattle.station.specs.declared.identity.Identity.{Identity}
use Rattle.console.specs.declared.outstanding.Load.{Load}
use Rattle.console.specs.declared.outstanding.Load.TheVariants.{Nothing, Text, Call}
use Rattle.console.specs.declared.outstanding.Outstanding.{Outstanding}
use Rattle.console.specs.Console.{Console, DID, ONE, text_codes, call_code, load_codes, content, load_of, found, is_empty, freed, acknowledges_text, Spoken, enquiry, framed, spoken, polled}
use Rattle.history.specs.Words.{held_count, up_to_ETX, text_sent, has_acknowledgement, finds_nothing}

-- a held text is the last one taken, keeps the keyboard locked, and is plain
abbrev pub Holds : Option (List ℕ) → Option (List ℕ) → Bool → Type 0
Holds None last locked = Unit {0}
Holds (Some t) last locked = (locked ≡ true) × (last ≡ Some t) × AllByRecursion Plain t

-- what an outstanding reply carried is still held
abbrev pub Backs : Load → Option (List ℕ) → Type 0
Backs Nothing held = Unit {0}
Backs Text held = is_some held ≡ true
Backs Call held = Unit {0}

abbrev pub Backed : Option Outstanding → Option (List ℕ) → Type 0
Backed None held = Unit {0}
Backed (Some q) held = Backs q.load held

-- what characters show: whether they acknowledge, and that a text among them is the last one taken
pub record Says (cs : List ℕ) (acks : Bool) (last : Option (List ℕ)) : Type 0 where
  pub acknowledgement : has_acknowledgement cs ≡ acks
  pub text : (t : List ℕ) → text_sent cs ≡ Some t → last ≡ Some t

-- what a reply's octets show, as a line of its kind gives their characters
abbrev pub Shows : Kind → List ℕ → Bool → Option (List ℕ) → Type 0
Shows k reply acks last = Says (map k.character reply) acks last

-- what a poll's reply shows and leaves; a says whether the poll acknowledges
pub record Polled (k : Kind) (a : Bool) (d : Console) (r : Spoken) (last : Option (List ℕ)) : Type 0 where
  pub text : (t : List ℕ) → text_sent (map k.character r.octets) ≡ Some t → last ≡ Some t
  -- an acknowledgement pays the one that was due; with nothing outstanding it is sent exactly when due
  pub paid : r.console.due ≡ (not (has_acknowledgement (map k.character r.octets)) && d.due)
  pub due : finds_nothing (Some (cond a poll_acknowledge poll)) d.outstanding ≡ true → has_acknowledgement (map k.character r.octets) ≡ d.due
  -- what was so before the poll is so after it
  pub holds : Holds r.console.held last r.console.locked
  pub backed : Backed r.console.outstanding r.console.held
  pub calls : AllByRecursion Plain (call_code r.console.call)
  -- a text that was held is acknowledged or still held
  pub counts : held_count d.held ≡ cond (acknowledges_text a d.outstanding) 1 0 + held_count r.console.held

-- plain characters in front show nothing
after_plain : {acks : Bool} {last : Option (List ℕ)} (xs : List ℕ) {ys : List ℕ} → AllByRecursion Plain xs → Says ys acks last → Says (xs ++ ys) acks last
after_plain [] p s = s
after_plain (x ∷ xs) p s =
    let r = after_plain xs p.1 s in
    record { acknowledgement = rw (ne_eqb x DLE p.0.no_dle) r.acknowledgement; text = rw (ne_eqb x STX p.0.no_stx) r.text }

-- nor do ETX and the check, whatever it is
end_says : {last : Option (List ℕ)} (check : ℕ) → Says (ETX ∷ check ∷ []) false last
end_says check = record { acknowledgement = grind arith; text = λ t e. grind arith }

-- a plain text is what stands before the first ETX
up_to_plain : (xs ys : List ℕ) → AllByRecursion Plain xs → up_to_ETX (xs ++ (ETX ∷ ys)) ≡ Some xs
up_to_plain [] ys p = refl
up_to_plain (x ∷ xs) ys p = rw (ne_eqb x ETX p.0.no_etx, up_to_plain xs ys p.1)

-- the line sends seven bits of each character
abbrev seven_bits : List ℕ → List ℕ
seven_bits cs = map (λ c. c % 128) cs

seven_bits_plain : (xs : List ℕ) → AllByRecursion Plain xs → seven_bits xs ≡ xs
seven_bits_plain [] p = refl
seven_bits_plain (x ∷ xs) p = let e = mod-eq_of_lt p.0.seven in let r = seven_bits_plain xs p.1 in cc

-- what a reply carries beside an acknowledgement, to its end
load_says : (l : Load) (d : Console) {last : Option (List ℕ)} → Holds d.held last d.locked → Backs l d.held → AllByRecursion Plain (call_code d.call)
    → (check : ℕ) → Says (seven_bits (load_codes l d) ++ (ETX ∷ check ∷ [])) false last
load_says Nothing d h b c check = end_says check
load_says Call d h b c check = rw (seven_bits_plain (call_code d.call) c) (after_plain (call_code d.call) c (end_says check))
load_says Text d {last} h b c check = text_says d.held h b
  where
    text_says : (held : Option (List ℕ)) → Holds held last d.locked → is_some held ≡ true
        → Says (seven_bits (text_codes held) ++ (ETX ∷ check ∷ [])) false last
    text_says None h b = absurd (false≢true b)
    text_says (Some t) h b =
        rw (seven_bits_plain t h.2) (record {
          acknowledgement = (after_plain t h.2 (end_says {last = last} check)).acknowledgement;
          text = λ x e. cc (up_to_plain t (check ∷ []) h.2);
        })

-- with the acknowledgement in front
content_says : (acks : Bool) {last : Option (List ℕ)} (load end : List ℕ) → Says (seven_bits load ++ end) false last
    → Says (seven_bits (cond acks (DLE ∷ (ONE ∷ [])) [] ++ load) ++ end) acks last
content_says true load end s = record { acknowledgement = refl; text = s.text }
content_says false load end s = s

-- what a poll finds to send is held
finds_held : (held : Option (List ℕ)) (call : Option ℕ) → Backs (load_of held call) held
finds_held (Some t) call = refl
finds_held None (Some c) = tt
finds_held None None = tt

module _ (k : Kind) (back : GivesBack k) (id : Identity) where
  lead_plain : (n : ℕ) → AllByRecursion Plain (map k.character (replicate n (k.octet SYN)))
  lead_plain zero = tt
  lead_plain (suc n) = (rw (back SYN (omega arith)).1 (omega arith), lead_plain n)

  character_octets : (cs : List ℕ) → map k.character (octets k cs) ≡ seven_bits cs
  character_octets [] = refl
  character_octets (c ∷ cs) = let e = (back (c % 128) (omega arith)).1 in let r = character_octets cs in cc

  -- characters behind the lead
  lead_shows : (cs : List ℕ) {acks : Bool} {last : Option (List ℕ)} → Says (seven_bits cs) acks last → Shows k (lead k ++ octets k cs) acks last
  lead_shows cs s =
      rw (map-append k.character (lead k), character_octets cs)
      (after_plain (map k.character (lead k)) (lead_plain k.lead) s)

  -- what stands between DID and ETX shows what the reply shows
  framed_shows : (cs : List ℕ) {acks : Bool} {last : Option (List ℕ)} → ((check : ℕ) → Says (seven_bits cs ++ (ETX ∷ check ∷ [])) acks last)
      → Shows k (framed k id.identifiers cs) acks last
  framed_shows cs s =
      lead_shows (SOH ∷ checked (id.identifiers.rid ∷ (id.identifiers.sid ∷ (DID ∷ (cs ++ (ETX ∷ []))))))
      (rw (append_assoc cs, map-append (λ c. c % 128) cs) (after_plain (SOH ∷ id.identifiers.rid % 128 ∷ id.identifiers.sid % 128 ∷ DID ∷ []) (omega arith) (s _)))

  pub shows_outstanding : (q : Outstanding) (d : Console) (last : Option (List ℕ))
      → Holds d.held last d.locked → Backs q.load d.held → AllByRecursion Plain (call_code d.call)
      → Shows k (framed k id.identifiers (content q d)) q.acknowledges last
  shows_outstanding q d last h b c =
      framed_shows (content q d)
      (λ check. content_says q.acknowledges (load_codes q.load d) (ETX ∷ check ∷ []) (load_says q.load d h b c check))

  shows_enquiry : (last : Option (List ℕ)) → Shows k (framed k id.identifiers enquiry) false last
  shows_enquiry last =
      framed_shows enquiry (λ check. let e = end_says check in record { acknowledgement = e.acknowledgement; text = e.text })

  shows_no_traffic : (last : Option (List ℕ)) → Shows k (no_traffic_octets k) false last
  shows_no_traffic last = lead_shows (checked no_traffic) (after_plain (EOT ∷ EOT ∷ []) (omega arith) (end_says ETX))

  -- where the settling leaves e with nothing outstanding, what there is to send goes out, or no traffic
  spoken_shows : (a : Bool) (d e : Console) (last : Option (List ℕ)) → e.due ≡ d.due
      → Holds e.held last e.locked → Backed e.outstanding e.held → AllByRecursion Plain (call_code e.call)
      → held_count d.held ≡ cond (acknowledges_text a d.outstanding) 1 0 + held_count e.held
      → Polled k a d (spoken k id.identifiers None e) last
  spoken_shows a d e last same h b c n =
      let none = shows_no_traffic last in
      let finds = finds_held e.held e.call in
      let sent = shows_outstanding (found e) e last h finds c in
      cond_both (is_empty (found e)) _ _ (λ r. Polled k a d r last)
      (λ empty. record { text = none.text; paid = grind arith; due = λ _. grind arith; holds = h; backed = b; calls = c; counts = n })
      (λ _. record { text = sent.text; paid = grind arith; due = λ _. cc; holds = h; backed = finds; calls = c; counts = n })

  pub poll_shows : (a : Bool) (d : Console) (last : Option (List ℕ))
      → Holds d.held last d.locked → Backed d.outstanding d.held → AllByRecursion Plain (call_code d.call)
      → Polled k a d (polled k id.identifiers a d) last
  poll_shows a d last h b c = answered a d.outstanding b
    where
      -- the console, and the answer to a poll, with this reply outstanding
      with_reply : Option Outstanding → Console
      with_reply o = record { locked = d.locked; light = d.light; held = d.held; call = d.call; outstanding = o; due = d.due }

      Answered : Bool → Option Outstanding → Type 0
      Answered a o = Polled k a (with_reply o) (polled k id.identifiers a (with_reply o)) last

      -- a poll with acknowledgement, by what the settled reply carried
      settles : (acks : Bool) (l : Load) → Backs l d.held → Answered true (Some (record { acknowledges = acks; load = l }))
      settles acks Nothing b = spoken_shows true _ (freed Nothing d) last refl h tt c (omega arith)
      settles acks Text b = spoken_shows true _ (freed Text d) last refl tt tt c (grind arith)
      settles acks Call b = spoken_shows true _ (freed Call d) last refl h tt tt (omega arith)

      answered : (a : Bool) (o : Option Outstanding) → Backed o d.held → Answered a o
      answered false None b = spoken_shows false _ (with_reply None) last refl h tt c (omega arith)
      answered true None b = spoken_shows true _ (with_reply None) last refl h tt c (omega arith)
      answered true (Some q) b = settles q.acknowledges q.load b
      answered false (Some q) b =
          let s = shows_enquiry last in
          record { text = s.text; paid = grind arith; due = λ e. cc; holds = h; backed = b; calls = c; counts = omega arith }
