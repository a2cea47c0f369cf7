pub mod RecordText
