-- All that an outcome opens when it is computed, under one name: who computes outcomes says `unfolding opened`, and names its own
-- definitions besides.
use Rattle.std.proofs.Math.Bool.{xor}
use Rattle.octets.specs.Below.{all_below, sum_below, count_below, lowest_from, concat_below}
use Rattle.octets.specs.Octets.{half_at, word_at, splice, set_word, every, same_bytes, sum_onto}
use Rattle.terms.specs.Operation.{operation_of}
use Rattle.blocks.specs.Blocks.{check_by, check_of, is_sealed, seal}
use Rattle.schema.specs.Decode.{path_from, entry_from, schema_of}
use Rattle.schema.specs.Layout.{links_before, key_place, link_place, body_place, first_block, size_rule, keeps_rules}
use Rattle.schema.specs.Naming.{set_named, path_named}
use Rattle.schema.specs.Place.{block_of, place_of}
use Rattle.schema.specs.Rules.{block_rule, head_rule, name_rule, master_rule, variable_rule, records_rule, path_rule, slot_rule, set_rule, entry_rule, rest_rule, names_rule, clash, letters_rule, form_rule}
use Rattle.records.specs.Areas.{area_key_place, keys_on, area_of, new_master, new_paths, new_variable}
use Rattle.plans.specs.Plan.{blocks_sealed, store_all, seal_all, committed, seal_below, formatted}
use Rattle.scan.specs.Scan.{lowest_free}
use Rattle.masters.specs.Find.{seek, find, tail_from}
use Rattle.masters.specs.Root.{add_master_full, add_master_damaged, add_master_stores, del_master_damaged, del_master_stores}
use Rattle.points.specs.Chains.{read_damaged, has_points}
use Rattle.points.specs.Points.{neighbours_at, add_damaged, add_stores, del_damaged, del_stores, new_place}
use Rattle.sound.specs.Sound.{is_in, within, checks_true, record_clean, leftover_clean, set_clean, follow, is_chain, last_of, keys_distinct, masters_of_home, home_list, home_sound, master_set_sound, path_list, path_sound, has_master, variable_path_sound, variable_set_sound, set_sound, sound}
use Rattle.calls.specs.Ladder.{refusal, wrong_kind, blank_area_key, other_area_key, ladder, other_stored_key}
use Rattle.calls.specs.Outcome.{done, outcome_in, outcome}
use Rattle.calls.specs.Reply.{given, reference_after, area_after, stores_of, base_after}
use Rattle.calls.specs.Scene.{scene_under}

unfoldable pub opened : Unit {0}
unfolding xor half_at word_at splice set_word every same_bytes sum_onto all_below sum_below count_below lowest_from concat_below operation_of check_by check_of is_sealed seal block_rule head_rule name_rule master_rule variable_rule records_rule path_rule slot_rule set_rule entry_rule rest_rule names_rule clash letters_rule form_rule links_before key_place link_place body_place first_block size_rule keeps_rules path_from entry_from schema_of block_of place_of area_key_place keys_on area_of new_master new_paths new_variable blocks_sealed store_all seal_all committed seal_below formatted seek find lowest_free add_master_full add_master_damaged add_master_stores read_damaged neighbours_at add_damaged add_stores del_damaged del_stores is_in within checks_true record_clean leftover_clean set_clean follow is_chain last_of keys_distinct masters_of_home home_list home_sound master_set_sound path_list path_sound has_master variable_path_sound variable_set_sound set_sound sound refusal wrong_kind blank_area_key other_area_key ladder done outcome_in outcome given reference_after area_after stores_of base_after set_named path_named scene_under new_place del_master_damaged del_master_stores has_points other_stored_key tail_from
opened = tt
